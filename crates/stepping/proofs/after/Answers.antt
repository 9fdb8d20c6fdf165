-- `after` meets its contract. Assumes nothing.
use mathlib.Core.Path.{◌≡◌, sym, ap, ◌∙◌, refl}
use mathlib.Core.List.{List}
use Prim.Native.Nat.{ℕ}
use native.Mathlib.Omega.{arith}
use Rattle.fields.specs.Byte.{bytes}
use Rattle.comparison.specs.Local.{on_shares}
use Rattle.comparison.specs.Rounds.{first_carry}
use Rattle.search.specs.declared.searches.Search.{Search}
use Rattle.search.specs.Searches.{next}
use Rattle.search.proofs.Bounds.{probes_few}
use Rattle.record.specs.declared.Party.{Party}
use Rattle.round.specs.declared.Heard.{Heard}
use Rattle.round.specs.declared.Heard.TheVariants.{Sum, Factors, Verdict}
use Rattle.round.specs.Round.{Possible}
use Rattle.message.specs.Message.{bit_share}
use Rattle.record.specs.Updates.{in_round, decided}
use Rattle.stepping.specs.After.{after}
use Rattle.record.proofs.Soundness.{sound_facts, few_rounds, sheets_most}
use mathlib.Core.Bool.{Bool, true, false, cond}
use lib.Dec.{eqb}
use Prim.Native.Nat.{◌≤◌}
use Rattle.message.proofs.Messages.{sheet_at_least}
use Rattle.stepping.specs.After.{role}
use Rattle.stepping.proofs.after.Goals as goal

module _ (q : Party) (sheet : List ℕ) (h : Heard) where
  summed : (v carry : ℕ) → h ≡ Sum v → carry ≡ cond (eqb q.last 7) q.carry (first_carry (on_shares bytes) v (bit_share sheet 1))
      → in_round q 2 v carry q.pairs ≡ after q sheet h
  unfolding after
  summed v carry e g = rw (e, g)

  judged : (v : ℕ) (s : Search) → h ≡ Verdict v → s ≡ next q.search v → decided q s ≡ after q sheet h
  unfolding after
  judged v s e f = rw (e, f)

-- a round that is judged as one up to 32 is that round
role_is : (q : Party) → role q ≤ 32 → role q ≡ q.round
role_is q = split (eqb q.round q.last)
  where
    split : (b : Bool) → cond b 33 q.round ≤ 32 → cond b 33 q.round ≡ q.round
    split true h = absurd (omega arith)
    split false h = refl

pub begun-requires : goal.begun-requires
begun-requires c =
    let first : role c.args.q ≡ 1 = rw c.in-Sum.is at c.requires.3 in
    let one : c.args.q.round ≡ 1 = sym (role_is c.args.q (omega (arith, first))) ∙ first in
    omega (arith, sheet_at_least c.args.q c.args.sheet.now (omega (arith, one)) c.requires.1)

pub multiplied-requires : goal.multiplied-requires
multiplied-requires c =
    let possible : Possible (role c.args.q) (Factors _ _) = rw c.in-Factors.is at c.requires.3 in
    let e = role_is c.args.q possible.1 in (
      sheet_at_least c.args.q c.args.sheet.now (omega (arith, possible.1, e)) c.requires.1,
      (omega (arith, possible.0, e), omega (arith, possible.1, e), possible.2, possible.3),
    )

pub next-requires : goal.next-requires
next-requires c =
    let f = sound_facts c.args.q c.requires.0 in
    omega (arith, probes_few _ _ f.search, sheets_most c.args.q.k f.listed.prices_most)

pub totalled-requires : goal.totalled-requires
totalled-requires c =
    omega (arith, few_rounds c.args.q (sound_facts c.args.q c.requires.0))

pub returns-in-Sum : goal.returns-in-Sum
returns-in-Sum c =
    c.in_round.ensures
    ∙ summed c.args.q c.args.sheet.now c.args.heard _ _ c.in-Sum.is c.begun.ensures

pub returns-in-Factors : goal.returns-in-Factors
returns-in-Factors c = c.multiplied.ensures ∙ ap (after _ _) (sym c.in-Factors.is)

pub returns-in-Verdict : goal.returns-in-Verdict
returns-in-Verdict c =
    c.decided.ensures
    ∙ judged c.args.q c.args.sheet.now c.args.heard _ _ c.in-Verdict.is c.next.ensures

pub returns-in-Total : goal.returns-in-Total
unfolding after
returns-in-Total c = c.totalled.ensures ∙ sym (ap (after c.args.q c.args.sheet.now) c.in-Total.is)

pub returns-in-Unopened : goal.returns-in-Unopened
unfolding after
returns-in-Unopened c = sym (ap (after c.args.q c.args.sheet.now) c.in-Unopened.is)
