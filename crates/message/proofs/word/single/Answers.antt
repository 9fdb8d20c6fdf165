-- `single` meets its contract: it hands on what the word is made of. Assumes nothing.
use mathlib.Core.Path.{◌≡◌, sym, ap, ap₂, ◌∙◌}
use mathlib.Core.List.{List}
use Prim.Native.Nat.{ℕ, ◌≤◌}
use native.Mathlib.Omega.{arith}
use lib.Dec.{lit<}
use lib.ListN.{length, get_or}
use borrow.Author.Tests.{eq-eqb, ne_eqb}
use Rattle.record.specs.declared.Party.{Party}
use Rattle.record.proofs.Soundness.{Sound, sound_facts, last_most}
use Rattle.message.specs.Message.{demand_share, supply_share, carry_share, single_word, single}
use Rattle.message.proofs.Messages.{sheet_at_least}
use Rattle.message.proofs.word.single.Goals as goal
use Rattle.message.proofs.word.single.Goals.{After-struct_known-1}

-- the share of the carry, by the way
module _ (q : Party) (totals sheet : List ℕ) where
  of_seven : q.last ≡ 7
      → single_word q.round 7 q.sum (get_or q.pairs.words 1 0) q.search.which (demand_share q totals) (supply_share q totals) sheet
      ≡ single q totals sheet
  of_seven e =
      let carried : get_or q.pairs.words 1 0 ≡ carry_share q = sym (rw (eq-eqb q.last 7 e)) in
      ap₂ (λ (l c : ℕ). single_word q.round l q.sum c q.search.which (demand_share q totals) (supply_share q totals) sheet) (sym e) carried

  of_others : (q.last ≡ 7 → ⊥)
      → single_word q.round q.last q.sum q.carry q.search.which (demand_share q totals) (supply_share q totals) sheet
      ≡ single q totals sheet
  of_others n =
      let carried : q.carry ≡ carry_share q = sym (rw (ne_eqb q.last 7 n)) in
      ap (λ (c : ℕ). single_word q.round q.last q.sum c q.search.which (demand_share q totals) (supply_share q totals) sheet) carried

module _ (c : After-struct_known-1) where
  facts : Sound c.args.q
  facts = sound_facts c.args.q c.requires.0

  long : c.args.q.round ≤ 33 → 127 ≤ length c.args.sheet.now
  long l = sheet_at_least c.args.q c.args.sheet.now l c.requires.3

pub single_word-requires : goal.single_word-requires
single_word-requires c =
    ((facts (goal.at.single_word-requires c).After-struct_known-1).round.least, lit< tt, long (goal.at.single_word-requires c).After-struct_known-1)

pub returns-then-q-eq7 : goal.returns-then-q-eq7
returns-then-q-eq7 c =
    let a = c.args in
    let q = a.q in
    c.single_word.ensures
    ∙ ap (λ (x : ℕ). single_word q.round 7 q.sum x q.search.which c.totals_at-totals.result.demand c.totals_at-totals.result.supply a.sheet.now)
    c.last_bottom-bottom.ensures
    ∙ ap₂ (λ (d s : ℕ). single_word q.round 7 q.sum (get_or q.pairs.words 1 0) q.search.which d s a.sheet.now) c.totals_at-totals.ensures.demand c.totals_at-totals.ensures.supply
    ∙ of_seven q a.totals.now a.sheet.now c.if-q-eq7.true

pub overflow_cast-carry : goal.overflow_cast-carry
overflow_cast-carry c = omega (arith, (facts (goal.at.overflow_cast-carry c).After-struct_known-1).carry)

pub single_word-requires-2 : goal.single_word-requires-2
single_word-requires-2 c =
    ((facts (goal.at.single_word-requires-2 c).After-struct_known-1).round.least, last_most c.args.q.last (facts (goal.at.single_word-requires-2 c).After-struct_known-1).way, long (goal.at.single_word-requires-2 c).After-struct_known-1)

pub returns : goal.returns
returns c =
    let a = c.args in
    let q = a.q in
    c.single_word-2.ensures
    ∙ ap₂ (λ (d s : ℕ). single_word q.round q.last q.sum q.carry q.search.which d s a.sheet.now) c.totals_at-totals.ensures.demand c.totals_at-totals.ensures.supply
    ∙ of_others q a.totals.now a.sheet.now c.if-q-eq7.false
