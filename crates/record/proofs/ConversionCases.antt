-- Conversions of books from the edition of 2014 to that of 2023, computed.
use mathlib.Core.Path.{◌≡◌, refl}
use mathlib.Core.Bool.{false}
use mathlib.Core.List.{List, [], ◌∷◌, ◌++◌, map}
use lib.ListN.{replicate}
use Rattle.record.specs.State.{initial, expanded}
use Rattle.record.specs.End.{Quiet, Triggered, Held, Reverted}
use Rattle.record.specs.Record.{Call, converted, refused, accepted}
use Rattle.record.proofs.Examples.{corn, corn_group, jul24, dec24, june3, june4, june5, june6, june7, on, a_book, old_book, collected_in, collected, opens, converts, quiet_day, corn_day, flat, state_of, opened_unrenewed, answers_after, limits, lead, outcome, in_one_run, all_renewed, renewal}

-- ---- conversion: 2 18
-- a fresh book of either edition is converted, and once more; with a day open 2
pub both_editions :
    map (λ r. answers_after r [] (converts ∷ converts ∷ opens june3 ∷ converts ∷ [])) (old_book ∷ a_book ∷ [])
    ≡ replicate 2 (accepted converted ∷ accepted converted ∷ opened_unrenewed ∷ refused 2 ∷ [])
unfolding state_of
both_editions = refl

-- nothing but the edition changes, windows of 2014 included; a book under 2023 stays as it is
pub edition_alone : state_of (collected_in old_book (λ p. 2)) (converts ∷ []) ≡ collected 2
unfolding state_of
edition_alone = refl

pub stays2023 : state_of (collected 2) (converts ∷ []) ≡ collected 2
unfolding state_of
stays2023 = refl

-- July and September at I: expanded under both editions
abbrev expanded_corn : List Call
expanded_corn = corn_day june3 flat ++ corn_day june4 (4200 ∷ 4200 ∷ 4000 ∷ 4000 ∷ 4000 ∷ 4000 ∷ [])

-- 18 under 2014 alone; 2 before 18
pub expanded_refused :
    answers_after old_book expanded_corn (converts ∷ opens june5 ∷ converts ∷ []) ≡ refused 18 ∷ opened_unrenewed ∷ refused 2 ∷ []
unfolding state_of
expanded_refused = refl

pub expanded_of2023 : answers_after a_book expanded_corn (converts ∷ []) ≡ accepted converted ∷ []
unfolding state_of
expanded_of2023 = refl

-- and it leaves the book: expanded as before, it reverts at I by the rule of 2014
pub refused_leaves :
    outcome old_book corn_group (expanded_corn ++ converts ∷ corn_day june5 (4400 ∷ 4400 ∷ 4000 ∷ 4000 ∷ 4000 ∷ 4000 ∷ []))
    ≡ record {
      events = Quiet ∷ Triggered (lead corn jul24) ∷ Reverted ∷ [];
      level = initial;
      mark = false;
      limits = limits 200 320 ∷ [];
    }
unfolding state_of
refused_leaves = in_one_run _ _ _ _ refl

-- reverted, it is converted
abbrev reverted_corn : List Call
reverted_corn = expanded_corn ++ corn_day june5 (4200 ∷ 4200 ∷ 4000 ∷ 4000 ∷ 4000 ∷ 4000 ∷ [])

pub reverted_converted : answers_after old_book reverted_corn (converts ∷ []) ≡ accepted converted ∷ []
unfolding state_of
reverted_converted = refl

-- ---- the days after it
-- triggered and reverted under 2014; then one contract at I, which is enough under 2023 alone, and one at I, which holds under 2023 alone
abbrev after_june5 : List Call
after_june5 =
    corn_day june6 (4400 ∷ 4200 ∷ 4000 ∷ 4000 ∷ 4000 ∷ 4000 ∷ []) ++ corn_day june7 (4400 ∷ 4200 ∷ 4200 ∷ 4000 ∷ 4000 ∷ 4000 ∷ [])

pub across_conversion :
    outcome old_book corn_group (reverted_corn ++ converts ∷ after_june5)
    ≡ record {
      events = Quiet ∷ Triggered (lead corn jul24) ∷ Reverted ∷ Triggered (lead corn jul24) ∷ Held (lead corn dec24) ∷ [];
      level = expanded;
      mark = false;
      limits = limits 200 320 ∷ [];
    }
unfolding state_of
across_conversion = in_one_run _ _ _ _ refl

pub without_conversion :
    outcome old_book corn_group (reverted_corn ++ after_june5)
    ≡ record {
      events = Quiet ∷ Triggered (lead corn jul24) ∷ Reverted ∷ Quiet ∷ Quiet ∷ [];
      level = initial;
      mark = false;
      limits = limits 200 320 ∷ [];
    }
unfolding state_of
without_conversion = in_one_run _ _ _ _ refl

-- 18 are left on 3 June: after the conversion neither 3 June opens again, nor 4 June with as many left
pub left_across :
    answers_after old_book (corn_day june3 flat ++ converts ∷ []) (opens june3 ∷ opens (on 2024 6 4 18) ∷ opens (on 2024 6 4 17) ∷ [])
    ≡ refused 4 ∷ refused 16 ∷ opened_unrenewed ∷ []
unfolding state_of
left_across = refl

-- a window that is filled across a conversion gives one season limit, and is then empty
pub window_across :
    renewal (collected_in old_book (λ p. 43)) (quiet_day (on 2025 2 13 1) ++ converts ∷ quiet_day (on 2025 2 14 0)) (on 2025 5 1 21)
    ≡ all_renewed
unfolding state_of
window_across = refl
