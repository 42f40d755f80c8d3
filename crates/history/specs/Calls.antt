-- A call that a program makes as the Record's, and its result as the Record's answer.
use Rattle.std.specs.Prelude.{Result}
use Rattle.grain.specs.declared.refusals.Refusal.{Refusal}
use Rattle.record.specs.Record.{opening, sheet, end, convert, check, change, question, Accepted, opened, filed, ended, converted, checked, Answer}
use Rattle.record.specs.Record as the_record
use Rattle.book.specs.Calls.{answer_as}
use Rattle.history.specs.declared.calls.Call.{Call}
use Rattle.history.specs.declared.calls.Call.TheVariants.{Open, Sheet, End, Convert, Check}
use Rattle.history.specs.declared.calls.Reply.{Reply}
use Rattle.history.specs.declared.calls.Reply.TheVariants.{Opened, Filed, Ended, Converted, Checked}

abbrev pub call_as : Call → the_record.Call
call_as (Open d) = change (opening d)
call_as (Sheet f) = change (sheet f.product f.months.now f.settlements.now)
call_as End = change end
call_as Convert = change convert
call_as (Check o) = question (check o.product o.size o.month o.price)

abbrev pub reply_as : Reply → Accepted
reply_as (Opened l) = opened l
reply_as Filed = filed
reply_as (Ended l) = ended l
reply_as Converted = converted
reply_as (Checked v) = checked v

abbrev pub told : Result Reply Refusal → Answer
told r = answer_as reply_as r
