-- Marks counted one by one, and words chosen by them. Assumes nothing.
use mathlib.Core.Path.{◌≡◌, sym, ap, ap₂, ◌∙◌}
use mathlib.Core.Bool.{Bool, true, false}
use mathlib.Core.List.{List, [], ◌∷◌, ◌++◌, append_assoc}
use Prim.Native.Nat.{ℕ, zero, suc, ◌+◌, ◌≤◌, ◌<◌}
use native.Mathlib.Numerals.{add-one}
use native.Mathlib.Omega.{arith}
use lib.Dec.{eqb}
use borrow.Author.Tests.{eq-eqb, ne_eqb}
use Rattle.ranges.specs.Lists.{from}
use lib.ListN.{length, take, drop, set, get_or}
use lib.Seq.{take-set-le, take-suc-set}
use Rattle.ranges.proofs.Bends.{first}
use Rattle.presence.specs.Presence.{marked, choose, of_present, how_many}

-- the mark at place i
module _ (present : List ℕ) (i : ℕ) (h : i < length present) where
  pub counted : get_or present i 0 ≤ 1 → how_many (drop i present) ≡ get_or present i 0 + how_many (drop (i + 1) present)
  counted l = ap how_many (first present i h) ∙ by (get_or present i 0) l
    where
      by : (m : ℕ) → m ≤ 1
          → length (choose (eqb 1 m ∷ marked (drop (i + 1) present)) (m ∷ drop (i + 1) present)) ≡ m + how_many (drop (i + 1) present)
      by zero l = omega arith
      by (suc zero) l = omega arith
      by (suc (suc m)) l = absurd (omega (arith, l))

-- ---- one place more is looked at, of what is left of the marks and of any list

module _ (left left' : List ℕ) (mark : ℕ) (e : left ≡ mark ∷ left') (said said' : List ℕ) (word : ℕ) (f : said ≡ word ∷ said') where
  module _ (list : List ℕ) (count : ℕ) (l : count < length list) where
    here : (b : Bool) → eqb 1 mark ≡ b → of_present left said ≡ choose (b ∷ marked left') (word ∷ said')
    here b t = ap₂ of_present e f ∙ ap (λ (c : Bool). choose (c ∷ marked left') (word ∷ said')) t

    -- what stands there is the next of the list where the mark is 1
    pub chosen_next : mark ≡ 1 → take count list ++ of_present left said ≡ take (count + 1) (set list count word) ++ of_present left' said'
    chosen_next m =
        ap (λ (zs : List ℕ). take count list ++ zs) (here true (eq-eqb 1 mark (sym m)))
        ∙ sym (append_assoc (take count list) (word ∷ []) (of_present left' said'))
        ∙ ap (λ (zs : List ℕ). zs ++ of_present left' said') (sym (take-suc-set list count word l))
        ∙ ap (λ (j : ℕ). take j (set list count word) ++ of_present left' said') (sym (add-one count))

    -- and else is written over
    pub not_chosen : (mark ≡ 1 → ⊥) → take count list ++ of_present left said ≡ take count (set list count word) ++ of_present left' said'
    not_chosen m = ap₂ ◌++◌ (sym (take-set-le count list count word (omega arith))) (here false (ne_eqb 1 mark (λ h. m (sym h))))

-- of the numbers of the parties
pub number_next : (left left' : List ℕ) (mark i number after : ℕ) → left ≡ mark ∷ left' → number ≡ i → after ≡ i + 1
    → from (i + 1) (length left) ≡ (number + 1) ∷ from (after + 1) (length left')
unfolding from
number_next left left' mark i number after e n a =
    ap (λ (ms : List ℕ). from (i + 1) (length ms)) e
    ∙ ap₂ (λ (x j : ℕ). x ∷ from j (length left')) (ap (λ (x : ℕ). x + 1) (sym n)) (omega arith)
