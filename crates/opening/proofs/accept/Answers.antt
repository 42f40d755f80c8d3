use Rattle.std.proofs.Common.{◌≡◌, refl, ◌∙◌, ap, ℕ, ◌<◌, Bool, true, false, map, rules}
use Rattle.std.specs.Prelude.{Some, is_some}
use Rattle.grain.specs.Products.{product_count}
use Rattle.std.specs.List.{list_any}
use Rattle.record.specs.History.{products_of}
use Rattle.record.specs.State.{group_count}
use Rattle.book.specs.declared.Book.{Book}
use Rattle.book.specs.declared.standing.Standing.{Standing}
use Rattle.book.specs.Book.{is_standing, standing_in}
use Rattle.book.specs.Numbers.{all_products}
use Rattle.book.proofs.Flags.{flags_in, edition_kept, opened_on}
use Rattle.book.proofs.Numbers.{values_are}
use Rattle.book.proofs.SoundFacts.{book_sound, window_settlements}
use Rattle.opening.specs.Opens.{standing_on}
use Rattle.opening.proofs.FullWindows.{given_where}
use Rattle.opening.proofs.Starts.{one-renewed}
use Rattle.opening.proofs.Renewals.{renewed_on, OpenedOn, opened_view, renewed-answer}
use Rattle.opening.proofs.accept.Goals as goal

pub new_limits-new-requires : goal.new_limits-new-requires
new_limits-new-requires c = window_settlements c.args.b.now c.requires.sound

-- flags stay flags
flags_on : (x : Bool) (s : Standing) → is_standing s ≡ true → is_standing (standing_on x s) ≡ true
flags_on true s e = refl
flags_on false s e = e

pub returns : goal.returns
returns c =
    let b = c.args.b.now in
    let d = c.args.dates.now.day in
    let renews = rw c.requires.last at c.of-change.ensures.0 in
    let empties = rw c.requires.last at c.of-change.ensures.1 in
    let each : (p : ℕ) → p < product_count → Rattle.std.specs.Prelude.get_or c.are_renewed-renewed.result p false ≡ renewed_on b d p =
    λ p l. c.are_renewed-renewed.ensures p l ∙ ap is_some (c.new_limits-new.ensures p l) ∙ given_where _ _ ∙ rw renews in
    let renewed : c.are_renewed-renewed.result ≡ map (renewed_on b d) all_products = values_are false (renewed_on b d) product_count c.are_renewed-renewed.result (search rules) each in
    let z : Book =
    record b {
      is_open = 1;
      day = d;
      limits = c.limits_on-b.result;
      standings = c.standings_on-b.result;
      windows = c.empty_on.new.windows;
    } in
    let stands : (g : ℕ) → g < group_count → standing_in z g ≡ standing_on (list_any (renewed_on b d) (products_of g)) (standing_in b g) =
    λ g l. c.standings_on-b.ensures g l ∙ rw (renewed, one-renewed (renewed_on b d) g l) in
    let on : OpenedOn b d z =
    record {
      limits = λ p l. c.limits_on-b.ensures p l ∙ rw (c.new_limits-new.ensures p l, renews);
      windows = c.empty_on.ensures ∙ rw empties;
      today = refl;
      last = refl;
      standings = stands;
      edition = edition_kept b z (book_sound b c.requires.sound) refl refl (search rules) (λ g l. rw (stands g l) (flags_on (list_any (renewed_on b d) (products_of g)) (standing_in b g) (flags_in b (book_sound b c.requires.sound) g))) refl;
      opened = opened_on z d refl c.args.dates.now.day_true;
      is_open = refl;
    } in
    (rw renewed (renewed-answer b d), opened_view b d z on)
