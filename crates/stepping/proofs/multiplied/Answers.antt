-- `multiplied` meets its contract. Assumes nothing.
use mathlib.Core.Path.{◌≡◌, ◌∙◌}
use mathlib.Core.List.{List}
use Prim.Native.Nat.{ℕ, ◌+◌}
use Rattle.fields.specs.Byte.{bytes}
use Rattle.comparison.specs.Local.{on_shares}
use Rattle.comparison.specs.Rounds.{next_carry}
use Rattle.record.specs.declared.Party.{Party}
use Rattle.round.specs.declared.Heard.TheVariants.{Factors}
use Rattle.message.specs.Message.{triple_share}
use Rattle.record.specs.Updates.{in_round}
use Rattle.stepping.specs.After.{after}
use Rattle.stepping.proofs.multiplied.Goals as goal

-- the carry is made of the round's triple
made : (q : Party) (sheet : List ℕ) (d e alpha beta gamma carry : ℕ) → carry ≡ next_carry (on_shares bytes) q.sum q.round d e alpha beta gamma
    → alpha ≡ triple_share sheet q.round 0 → beta ≡ triple_share sheet q.round 1 → gamma ≡ triple_share sheet q.round 2
    → in_round q (q.round + 1) q.sum carry q.pairs ≡ after q sheet (Factors d e)
unfolding after
made q sheet d e alpha beta gamma carry h a b g = rw (h, a, b, g)

pub returns : goal.returns
returns c =
    c.in_round.ensures
    ∙ made c.args.q c.args.sheet.now.words.now c.args.d c.args.e _ _ _ _ c.next_carry-carry.ensures c.triple_shares.ensures.alpha
    c.triple_shares.ensures.beta c.triple_shares.ensures.gamma
