-- A book of zeros.
use Rattle.std.proofs.Common.{◌≡◌, ℕ}
use Rattle.std.specs.Prelude.{replicate}
use Rattle.grain.specs.Products.{product_count}
use Rattle.grain.specs.declared.amounts.Limit.{Limit}
use Rattle.record.specs.declared.Day.{Day}
use Rattle.record.specs.State.{no_day, group_count}
use Rattle.sheets.specs.declared.sheet.Sheet.{Sheet}
use Rattle.sheets.specs.Sheets.{empty_sheet}
use Rattle.windows.specs.declared.Windows.{Windows}
use Rattle.windows.specs.Windows.{empty_windows}
use Rattle.book.specs.declared.standing.Standing.{Standing}
use Rattle.book.specs.declared.Book.{Book}
use Rattle.book.specs.Book.{no_limit, no_standing}
use Rattle.book.specs.Founding.{no_book}

record_day : (y m d l : ℕ) → y ≡ 0 → m ≡ 0 → d ≡ 0 → l ≡ 0 → ◌≡◌ {A = Day} (record { year = y; month = m; day = d; left = l }) no_day
record_day y m d l p q r s = rw (p, q, r, s)

pub day_is : (d : Day) → (d.year ≡ 0) × ((d.month ≡ 0) × ((d.day ≡ 0) × (d.left ≡ 0))) → d ≡ no_day
day_is d e = record_day d.year d.month d.day d.left e.0 e.1.0 e.1.1.0 e.1.1.1

record_limit : (i e : ℕ) → i ≡ 0 → e ≡ 0 → ◌≡◌ {A = Limit} (record { initial = i; expanded = e }) no_limit
record_limit i e p q = rw (p, q)

pub limit_is : (l : Limit) → (l.initial ≡ 0) × (l.expanded ≡ 0) → l ≡ no_limit
limit_is l e = record_limit l.initial l.expanded e.0 e.1

record_standing : (e m : ℕ) → e ≡ 0 → m ≡ 0 → ◌≡◌ {A = Standing} (record { expanded = e; marked = m }) no_standing
record_standing e m p q = rw (p, q)

pub standing_is : (s : Standing) → (s.expanded ≡ 0) × (s.marked ≡ 0) → s ≡ no_standing
standing_is s e = record_standing s.expanded s.marked e.0 e.1

pub zeros : (d : Day) (l : Limit) (s : Standing) (w : Windows) (t u : Sheet) → d ≡ no_day → l ≡ no_limit → s ≡ no_standing → w ≡ empty_windows → t ≡ empty_sheet → u ≡ empty_sheet
    → ◌≡◌ {A = Book}
    (record { format = 0; edition = 0; is_open = 0; day = d; limits = replicate product_count l; standings = replicate group_count s; windows = w; today = replicate product_count t; last = replicate product_count u })
    no_book
unfolding no_book
zeros d l s w t u dp lp sp wp tp up = rw (dp, lp, sp, wp, tp, up)
