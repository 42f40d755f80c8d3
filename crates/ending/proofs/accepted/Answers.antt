use Rattle.std.proofs.Common.{◌≡◌, refl, ◌∙◌, ap, ℕ, ◌<◌, Bool, true, false, rules}
use lib.ListN.{get_or-replicate}
use Rattle.std.specs.Prelude.{◌&&◌, List, get_or}
use Rattle.std.specs.List.{list_any}
use Rattle.grain.specs.declared.spot.TradeDate.{TradeDate}
use Rattle.record.specs.Edition.{conditions_of}
use Rattle.record.specs.Move.{is_at_expanded}
use Rattle.record.specs.End.{level_after, mark_after}
use Rattle.record.specs.Sound.{is_expanded}
use Rattle.record.specs.History.{products_of}
use Rattle.grain.specs.Products.{product_count}
use Rattle.record.specs.declared.Event.{Event}
use Rattle.sheets.specs.Sheets.{sheet_in}
use Rattle.book.specs.declared.Book.{Book}
use Rattle.book.specs.Book.{no_sheet, flag_word, is_flag, is_standing, opened_in, view}
use Rattle.book.proofs.Flags.{edition_kept}
use Rattle.book.proofs.SoundFacts.{book_sound, edition_is, today_fits, size_fits, day_in}
use Rattle.ending.specs.Ends.{quiet, standing_of_end}
use Rattle.ending.specs.Lead.{moves_of}
use Rattle.ending.proofs.AfterEnd.{today, Leaves, end_answer, end_view}
use Rattle.ending.proofs.Items.{shows_end}
use Rattle.ending.proofs.SoundBook.{readable}
use Rattle.ending.proofs.accepted.Goals as goal
use Rattle.ending.proofs.accepted.Goals.{Start}

-- the day that the Record ends is the open one
is_today : (c : Start) → today c.args.b.now ≡ c.args.on.day
unfolding view
is_today c = day_in c.args.b.now c.args.on.day c.requires.1

pub invariant_of-moves : goal.invariant_of-moves
invariant_of-moves c = record { readable = readable c.args.b.now c.requires.0 }

pub collect_all-requires : goal.collect_all-requires
collect_all-requires c = λ p l. size_fits c.args.b.now c.requires.0 p l

-- what an end writes are flags
flag_is : (x : Bool) → is_flag (flag_word x) ≡ true
flag_is true = refl
flag_is false = refl

both : (x y : Bool) → is_standing (record { expanded = flag_word x; marked = flag_word y }) ≡ true
both x y = rw (flag_is x, flag_is y)

ended_flags : (b : Book) (date : TradeDate) (es : List Event) (g : ℕ) → is_standing (standing_of_end b date es g) ≡ true
ended_flags b date es g =
    let e = get_or es g quiet in
    both (is_expanded (level_after e)) (mark_after e ((conditions_of b.edition).has_marks && list_any (list_any is_at_expanded) (moves_of b date (products_of g))))

-- the day stays
day_kept : (b z : Book) → z.day ≡ b.day → opened_in z ≡ opened_in b
unfolding opened_in
day_kept b z e = rw e

pub returns : goal.returns
returns c =
    let b = c.args.b.now in
    let sound = c.requires.0 in
    let day = is_today (goal.at.returns c).Start in
    let es = c.events-events.result in
    let z : Book = record b {
      is_open = 0;
      limits = c.limits_of_end-b.result;
      standings = c.standings-standings.result;
      windows = c.collect_all.new.windows;
      today = Rattle.std.specs.Prelude.replicate product_count c.none-b.result;
      last = b.today;
    } in
    let none : (p : ℕ) → p < product_count → sheet_in (get_or z.today p no_sheet) ≡ Rattle.std.specs.Prelude.None =
    λ p l. ap sheet_in (get_or-replicate product_count p c.none-b.result no_sheet l) ∙ c.none-b.ensures.none in
    let after : Leaves b z es = record {
      events = rw (day, ← c.args.on.dated) c.events-events.ensures;
      standings = λ g l. rw (day, ← c.args.on.dated) (c.standings-standings.ensures g l);
      products = λ p l. rw day (shows_end c.args.on.day _ p b z (today_fits b sound p l) (c.limits_of_end-b.ensures p l) (c.collect_all.ensures p l) (none p l) refl);
      edition = edition_kept b z (book_sound b sound) refl refl (search rules) (λ g l. ap is_standing (c.standings-standings.ensures g l) ∙ ended_flags b c.args.on.date es g) refl;
      opened = day_kept b z refl;
      is_open = refl;
    } in
    (end_answer b z es (edition_is b sound) after, end_view b z es (edition_is b sound) after)
