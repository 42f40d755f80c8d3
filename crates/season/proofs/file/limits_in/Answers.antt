use Rattle.std.proofs.Common.{◌≡◌, true, false, sym, ap, ◌∙◌}
use Rattle.std.proofs.lemmas.Result.{err_from_is_err_and}
use Rattle.grain.specs.Lists.{every, is_ascending}
use Rattle.grain.specs.Products.{is_product}
use Rattle.grain.proofs.Chains.{every_is}
use Rattle.season.specs.SeasonFile.{is_misshapen, is_date_word, product_in, dates_in, season_line}
use Rattle.season.proofs.Shape.{whole, misshapen_unless}
use Rattle.season.proofs.Words.{product_is, count_is, dates_are, settlements_are}
use Rattle.season.proofs.Limits.{with_product, sound_line}
use Rattle.season.proofs.file.limits_in.Goals as goal
use Rattle.season.proofs.file.limits_in.Goals.{Else-words, Else-not-are_dates, Else-not-is_ascending, Else-not-is_product}

-- Each return follows from the tests before it: `shaped`, `offered`, `dated` and `rising` are what is known past each.

shaped : (c : Else-words) → is_misshapen c.args.file.now ≡ false
shaped c = whole _ c.if-file-ne-FILE_BYTES.false (sym (count_is _ _ c.words_of-words.ensures) ∙ c.if-words.false)

offered : (c : Else-not-is_product) → is_product (product_in c.args.file.now) ≡ true
offered c = rw (product_is _ _ c.words_of-words.ensures) at (sym c.is_product.ensures ∙ c.if-not-is_product.false)

dated : (c : Else-not-are_dates) → every is_date_word (dates_in c.args.file.now) ≡ true
dated c = every_is _ _ ∙ (rw (dates_are _ _ c.words_of-words.ensures) at (sym c.are_dates.ensures ∙ c.if-not-are_dates.false))

rising : (c : Else-not-is_ascending) → is_ascending (dates_in c.args.file.now) ≡ true
rising c = rw (dates_are _ _ c.words_of-words.ensures) at (sym c.is_ascending.ensures ∙ c.if-not-is_ascending.false)

pub returns-then-file-ne-FILE_BYTES : goal.returns-then-file-ne-FILE_BYTES
unfolding season_line
returns-then-file-ne-FILE_BYTES c = simp (misshapen_unless _ (λ shape. c.if-file-ne-FILE_BYTES.true shape.0))

pub returns-then-words : goal.returns-then-words
unfolding season_line
returns-then-words c = simp (misshapen_unless _ (λ shape. c.if-words.true (count_is _ _ c.words_of-words.ensures ∙ shape.1)))

pub returns-then-not-is_product : goal.returns-then-not-is_product
unfolding season_line
returns-then-not-is_product c =
    let not_offered = rw (product_is _ _ c.words_of-words.ensures) at (sym c.is_product.ensures ∙ c.if-not-is_product.true) in
    simp (shaped (goal.at.returns-then-not-is_product c).Else-words, not_offered)

pub returns-then-not-are_dates : goal.returns-then-not-are_dates
unfolding season_line
returns-then-not-are_dates c =
    let past = goal.at.returns-then-not-are_dates c in
    let not_dated : every is_date_word (dates_in c.args.file.now) ≡ false = every_is _ _ ∙ (rw (dates_are _ _ c.words_of-words.ensures) at (sym c.are_dates.ensures ∙ c.if-not-are_dates.true)) in
    simp (shaped past.Else-words, offered past.Else-not-is_product, not_dated)

pub returns-then-not-is_ascending : goal.returns-then-not-is_ascending
unfolding season_line
returns-then-not-is_ascending c =
    let past = goal.at.returns-then-not-is_ascending c in
    let not_rising = rw (dates_are _ _ c.words_of-words.ensures) at (sym c.is_ascending.ensures ∙ c.if-not-is_ascending.true) in
    simp (shaped past.Else-words, offered past.Else-not-is_product, dated past.Else-not-are_dates, not_rising)

pub returns-in_err-limits : goal.returns-in_err-limits
returns-in_err-limits c =
    let past = goal.at.returns-in_err-limits c in
    let all = c.words_of-words.ensures in
    let told = rw (product_is _ _ all, settlements_are _ _ all) at c.in_err-limits.ensures in
    let line = sound_line _ (shaped past.Else-words) (offered past.Else-not-is_product) (dated past.Else-not-are_dates) (rising past.Else-not-is_ascending) in
    let from = err_from_is_err_and c.from_residual.result c.from_residual.ensures.1 in
    rw (from.1, from.2) (ap (with_product _) told ∙ line)

pub returns : goal.returns
returns c =
    let past = goal.at.returns c in
    let all = c.words_of-words.ensures in
    let told = rw (product_is _ _ all, settlements_are _ _ all) at c.in_ok-limits.ensures in
    let line = sound_line _ (shaped past.Else-words) (offered past.Else-not-is_product) (dated past.Else-not-are_dates) (rising past.Else-not-is_ascending) in
    rw (product_is _ _ all) (ap (with_product _) told ∙ line)
