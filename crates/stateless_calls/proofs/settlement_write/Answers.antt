-- `settlement_write` meets its contract: the reply of `settlement::write`, as its number and its count. Assumes nothing.
use mathlib.Core.Path.{sym, ap, ◌∙◌}
use Prim.Native.Nat.{ℕ}
use Rattle.std.proofs.Common.{Result}
use Rattle.refusal.specs.declared.Refusal.{Refusal}
use Rattle.settlement.specs.Write.{written_number, written_bytes}
use Rattle.stateless_calls.proofs.settlement_write.Goals as goal

pub returns-in-Ok : goal.returns-in-Ok
returns-in-Ok c =
    let old = c.args.written.now in
    let call = c.write.ensures in
    let reply = sym call.0 ∙ c.in-Ok.is in
    (sym (ap written_number reply), call.1, sym (ap (λ (w : Result ℕ Refusal). written_bytes w old) reply))

pub returns-in-Err : goal.returns-in-Err
returns-in-Err c =
    let old = c.args.written.now in
    let call = c.write.ensures in
    let reply = sym call.0 ∙ c.in-Err.is in
    (c.from.ensures ∙ sym (ap written_number reply), call.1, sym (ap (λ (w : Result ℕ Refusal). written_bytes w old) reply))
