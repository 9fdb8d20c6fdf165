-- The n parties' shares of an entry open to its amount, however they are written. Assumes nothing.
use Rattle.std.specs.Prelude.{Ok, Some}
use mathlib.Core.Path.{◌≡◌, ap, ◌∙◌, fun_ext}
use mathlib.Core.List.{List, ◌∷◌, map}
use Prim.Native.Nat.{ℕ, ◌+◌, ◌-◌, ◌*◌, ◌≤◌, ◌<◌}
use native.Mathlib.Nat.{mul-le-mul_right, lt_of_le_of_lt}
use native.Mathlib.Omega.{arith}
use lib.Dec.{leb, lit<}
use lib.ListN.{length, take, drop, get_or, length-drop}
use lib.Seq.{length-take-le}
use borrow.Author.Tests.{leb-true}
use Rattle.ranges.specs.Below.{AllBelow}
use Rattle.ranges.proofs.Loops.{every_at, same_from}
use Rattle.ranges.proofs.Ranges.{below_take, below_drop}
use Rattle.fields.specs.Amount.{p, amounts}
use Rattle.sharing.specs.Polynomial.{value}
use Rattle.sharing.specs.Scheme.{threshold, points}
use Rattle.weights.specs.Rows.{amount_scheme}
use Rattle.openings.specs.Opening.{opened}
use Rattle.openings.proofs.Laws.{amount_fits, opens}
use Rattle.bid.specs.Table.{most}
use Rattle.bid.specs.Split.{bid_shares}
use Rattle.bid.specs.Entry.{split_entry_judgement, split_entry_left}
use Rattle.bid.proofs.Laws.{Faultless, Splits, entry, splits_entry}
use Rattle.bid.proofs.Entries.{its_place}

-- t coins hide one amount of a table that is free of faults
module _ {n k : ℕ} {table coins : List ℕ} (n3 : 3 ≤ n) (n9 : n ≤ 9) (e : ℕ) (there : e < length table) (h : Faultless k table coins) where
  amount_opens : (own_coins : List ℕ) → AllBelow p own_coins → length own_coins ≡ threshold n
      → opened amount_scheme n (map (value amounts (get_or table e 0 ∷ own_coins)) (points n)) ≡ Some (get_or table e 0)
  amount_opens own_coins below long =
      let amount : get_or table e 0 ≤ most = leb-true _ _ (every_at (λ a. leb a most) table e h.small there) in
      opens amount_fits n (get_or table e 0) own_coins n3 n9 (lt_of_le_of_lt amount (lit< tt)) below long

-- what `split` writes for each party
module _ {n own k : ℕ} {table coins shares : List ℕ} (h : Splits n own k table coins shares) where
  pub entry_opens : (e : ℕ) → e < 2 * k
      → opened amount_scheme n (map (λ j. get_or (bid_shares (threshold n) j table coins) e 0) (points n)) ≡ Some (get_or table e 0)
  entry_opens e l =
      let t = threshold n in
      let there : e < length table = omega (arith, h.table_long) in
      let within : (e + 1) * t ≤ 2 * k * t = mul-le-mul_right t (omega arith) in
      ap (λ (f : ℕ → ℕ). opened amount_scheme n (map f (points n))) (fun_ext (λ j. entry t j table coins e there))
      ∙ amount_opens h.listed.parties_least h.listed.parties_most e there h.faultless (take t (drop (e * t) coins))
      (below_take p t (drop (e * t) coins) (below_drop p (e * t) coins h.faultless.coins_below))
      (length-take-le t (drop (e * t) coins) (omega (arith, length-drop (e * t) coins, h.coins_long)))

-- what `split_entry` writes for each party from the same t words, whatever each slice held before
pub written_opens : (n k entry : ℕ) (table coins : List ℕ) (lent : ℕ → List ℕ) → 1 ≤ n
    → ((j : ℕ) → 1 ≤ j → j ≤ n → split_entry_judgement n j k entry table coins (lent j) ≡ Ok tt)
    → opened amount_scheme n (map (λ j. get_or (split_entry_left n j k entry table coins (lent j)) (entry - 1) 0) (points n)) ≡ Some (get_or table (entry - 1) 0)
written_opens n k entry table coins lent n1 accepted =
    let h = splits_entry n 1 k entry table coins (lent 1) (accepted 1 (omega arith) n1) in
    let place : ℕ = entry - 1 in
    let there : place < length table = omega (arith, h.table_long, h.entry_least, h.entry_most) in
    ap (opened amount_scheme n)
    (same_from (λ j. get_or (split_entry_left n j k entry table coins (lent j)) place 0) (value amounts (get_or table place 0 ∷ coins)) 1 n
    (λ j l m. its_place n j k entry table coins (lent j) (accepted j l (omega arith))))
    ∙ amount_opens h.listed.parties_least h.listed.parties_most place there h.faultless coins h.faultless.coins_below h.coins_long
