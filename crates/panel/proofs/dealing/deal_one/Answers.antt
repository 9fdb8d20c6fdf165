-- `deal_one` meets its contract. Assumes nothing.
use mathlib.Core.Path.{◌≡◌, ap, ◌∙◌}
use mathlib.Core.List.{List, ◌++◌}
use Prim.Native.Nat.{ℕ, ◌+◌, ◌-◌}
use native.Mathlib.Omega.{arith}
use lib.ListN.{take, drop}
use lib.Seq.{drop-drop}
use borrow.Rule.Slice.PartMut.{put_mid}
use Rattle.ways.specs.Way.{way_of, sheet_size}
use Rattle.dealer.specs.Deal.{deal_left}
use Rattle.panel.specs.Parties.{sheet_dealt}
use Rattle.panel.proofs.dealing.deal_one.Goals as goal

put_dealt : (at size k : ℕ) (xs v : List ℕ) (f : List ℕ → List ℕ) → k ≡ size → v ≡ f (take k (drop at xs))
    → put_mid at k xs v ≡ take at xs ++ (f (take size (drop at xs)) ++ drop (at + size) xs)
put_dealt at size k xs v f ek e =
    ap (λ (z : List ℕ). put_mid at k xs z) e
    ∙ ap (λ (z : ℕ). put_mid at z xs (f (take z (drop at xs)))) ek
    ∙ ap (λ (z : List ℕ). take at xs ++ (f (take size (drop at xs)) ++ z)) (drop-drop size at xs)

pub returns : goal.returns
unfolding sheet_dealt
returns c =
    let a = c.args in
    let k : a.at + c.sheet_words.result - a.at ≡ sheet_size (way_of a.last) = omega (arith, c.sheet_words.ensures) in
    put_dealt a.at _ _ a.sheets.now _ (deal_left a.n a.own a.last a.words.now a.bytes.now) k c.deal.ensures.1
