-- `add_judged` meets its contract: nothing is written unless the call is accepted. Assumes nothing.
use Rattle.std.specs.Prelude.{Ok}
use mathlib.Core.Path.{◌≡◌, sym, ap, ◌∙◌}
use native.Mathlib.Omega.{arith}
use Rattle.session.specs.Add.{add_judgement}
use Rattle.record.specs.declared.Party.{Party}
use Rattle.refusal.proofs.Judging.{kept_new, kept_old}
use Rattle.record.proofs.Replies.{next_accepted, next_refused}
use Rattle.record.proofs.Soundness.{few_bids}
use Rattle.session.proofs.Laws.{adds}
use Rattle.session.proofs.adding.add_judged.Goals as goal
use Rattle.session.proofs.adding.add_judged.Goals.{In_default}

yes : (c : In_default) → add_judgement c.args.q c.args.totals.now c.args.bidder c.args.shares.now ≡ Ok tt
yes c = sym c.judge-judgement.ensures ∙ c.in_default.is

pub returns-in-Err : goal.returns-in-Err
returns-in-Err c =
    let j = sym c.judge-judgement.ensures ∙ c.in-Err.is in
    (c.refused.ensures ∙ sym (next_refused _ _ _ _ j), sym (kept_old _ _ _ _ j))

pub add_words-requires : goal.add_words-requires
add_words-requires c =
    let h = adds _ _ _ _ (yes (goal.at.add_words-requires c).In_default) in
    h.totals_long ∙ sym h.shares_long

pub entered-requires : goal.entered-requires
entered-requires c = omega (arith, few_bids _ (adds _ _ _ _ (yes (goal.at.entered-requires c).In_default)).sound)

pub returns : goal.returns
returns c =
    let j = yes (goal.at.returns c).In_default in
    (c.accepted.ensures ∙ ap (λ (q : Party). record { judgement = Ok tt; party = q }) c.entered.ensures ∙ sym (next_accepted _ _ _ j), c.add_words.ensures ∙ sym (kept_new _ _ _ j))
