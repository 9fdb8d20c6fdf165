-- `triple` meets its contract: the level's triples stand in the sheet. Assumes nothing.
use mathlib.Core.Path.{◌≡◌, sym, ap, ◌∙◌}
use mathlib.Core.List.{List}
use Prim.Native.Nat.{ℕ, ◌+◌, ◌-◌, ◌*◌, ◌≤◌, ◌<◌}
use native.Mathlib.Omega.{arith}
use lib.ListN.{length, get_or}
use Rattle.comparison.specs.Pairs.{Triple}
use Rattle.level.specs.Level.{level_triples, no_triple}
use Rattle.level.proofs.Laws.{Wide, wide, sheet_byte, triple_at}
use Rattle.level.proofs.Level.triple.Goals as goal
use Rattle.level.proofs.Level.triple.Goals.{After-width}

module _ (c : After-width) where
  abbrev sheet : List ℕ
  sheet = c.args.self.now.sheet.now

  W : Wide c.args.self.now.round
  W = wide c.args.self.now.round c.args.self.now.ready.least c.args.self.now.ready.most

  -- where the triple stands
  abbrev at : ℕ
  at = 34 + 3 * (64 - 2 * c.width.result + c.args.j)

  inside : at + 2 < 220
  inside = omega (arith, c.width.ensures, W.twice, W.some, W.most, c.requires)

  byte : (i : ℕ) → 1 ≤ i → i < 220 → (i < length sheet) × (get_or sheet i 0 < 256)
  byte i h l =
      (omega (arith, c.args.self.now.ready.sheet_long), sheet_byte c.args.self.now.round c.args.self.now.sum c.args.self.now.kept.now sheet c.args.self.now.ready i h l)

  found : get_or (level_triples c.args.self.now.round sheet) c.args.j no_triple
      ≡ record { alpha = get_or sheet at 0; beta = get_or sheet (at + 1) 0; gamma = get_or sheet (at + 2) 0 }
  found =
      triple_at c.args.self.now.round c.args.self.now.sum c.args.self.now.kept.now sheet c.args.self.now.ready c.args.j c.requires
      ∙ ap (λ (w : ℕ). record { alpha = get_or sheet (34 + 3 * (64 - 2 * w + c.args.j)) 0; beta = get_or sheet (34 + 3 * (64 - 2 * w + c.args.j) + 1) 0; gamma = get_or sheet (34 + 3 * (64 - 2 * w + c.args.j) + 2) 0 })
      (sym c.width.ensures)

pub overflow_mul-at : goal.overflow_mul-at
overflow_mul-at c = omega (arith, c.width.ensures, (W (goal.at.overflow_mul-at c).After-width).twice, (W (goal.at.overflow_mul-at c).After-width).most)

pub overflow_sub-at : goal.overflow_sub-at
overflow_sub-at c = omega (arith, c.width.ensures, (W (goal.at.overflow_sub-at c).After-width).twice, (W (goal.at.overflow_sub-at c).After-width).most)

pub overflow_mul-at-2 : goal.overflow_mul-at-2
overflow_mul-at-2 c = omega (arith, inside (goal.at.overflow_mul-at-2 c).After-width)

pub overflow_add-at-2 : goal.overflow_add-at-2
overflow_add-at-2 c = omega (arith, inside (goal.at.overflow_add-at-2 c).After-width)

pub byte_at-requires : goal.byte_at-requires
byte_at-requires c =
    byte (goal.at.byte_at-requires c).After-width _ (omega arith) (omega (arith, inside (goal.at.byte_at-requires c).After-width))

pub overflow_add-at-3 : goal.overflow_add-at-3
overflow_add-at-3 c = omega (arith, inside (goal.at.overflow_add-at-3 c).After-width)

pub byte_at-requires-2 : goal.byte_at-requires-2
byte_at-requires-2 c =
    byte (goal.at.byte_at-requires-2 c).After-width _ (omega arith) (omega (arith, inside (goal.at.byte_at-requires-2 c).After-width))

pub overflow_add-at-4 : goal.overflow_add-at-4
overflow_add-at-4 c = omega (arith, inside (goal.at.overflow_add-at-4 c).After-width)

pub byte_at-requires-3 : goal.byte_at-requires-3
byte_at-requires-3 c =
    byte (goal.at.byte_at-requires-3 c).After-width _ (omega arith) (omega (arith, inside (goal.at.byte_at-requires-3 c).After-width))

pub returns-clause-alpha : goal.returns-clause-alpha
returns-clause-alpha c = c.byte_at.ensures ∙ sym (ap (λ (t : Triple ℕ). t.alpha) (found (goal.at.returns-clause-alpha c).After-width))

pub returns-clause-beta : goal.returns-clause-beta
returns-clause-beta c = c.byte_at-2.ensures ∙ sym (ap (λ (t : Triple ℕ). t.beta) (found (goal.at.returns-clause-beta c).After-width))

pub returns-clause-gamma : goal.returns-clause-gamma
returns-clause-gamma c = c.byte_at-3.ensures ∙ sym (ap (λ (t : Triple ℕ). t.gamma) (found (goal.at.returns-clause-gamma c).After-width))
