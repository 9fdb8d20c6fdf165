-- Messages that stand keeper by keeper, each one's words together. Assumes nothing.
use mathlib.Core.Path.{◌≡◌, refl, sym, ap, ap₂, ◌∙◌}
use mathlib.Core.Bool.{Bool, true, false, true≢false}
use mathlib.Core.List.{List, [], ◌∷◌, ◌++◌, map, map-map, head-eq_of_cons-eq, tail-eq_of_cons-eq}
use Prim.Native.Nat.{ℕ, zero, suc, ◌+◌, ◌*◌, ◌<◌}
use native.Mathlib.Nat.{suc_inj, mul_comm, mul-zero}
use native.Mathlib.Omega.{arith}
use lib.Dec.{eqb}
use lib.ListN.{length, take, drop, get_or, length-map}
use lib.Seq.{get_or-take, get_or-drop, ext_get_or, take_at, drop_at, drop-drop}
use Rattle.ranges.specs.Lists.{from}
use Rattle.ranges.proofs.Loops.{length_from, map_from, same_from}
use Rattle.presence.specs.Presence.{marked, choose}
use Rattle.comparison.specs.Probe.{Each}
use Rattle.level_round.specs.Columns.{column}
use Rattle.level_round.proofs.Laws.{column_length, column_at}
use Rattle.auction.specs.Coins.{flat}
use Rattle.auction.specs.Received.{blocks}

-- ---- chosen lists

first_chosen : {A : Type 0} (d : A) (b : Bool) (bs : List Bool) (x y : A) (xs ys : List A)
    → choose (b ∷ bs) (x ∷ xs) ≡ choose (b ∷ bs) (y ∷ ys) → b ≡ true → x ≡ y
first_chosen d true bs x y xs ys e h = head-eq_of_cons-eq e
first_chosen d false bs x y xs ys e h = absurd (true≢false (sym h))

later_chosen : {A : Type 0} (b : Bool) (bs : List Bool) (x y : A) (xs ys : List A)
    → choose (b ∷ bs) (x ∷ xs) ≡ choose (b ∷ bs) (y ∷ ys) → choose bs xs ≡ choose bs ys
later_chosen true bs x y xs ys e = tail-eq_of_cons-eq e
later_chosen false bs x y xs ys e = e

-- where the same is chosen of two lists, they are the same in a place that is marked
pub chosen_at : {A : Type 0} (d : A) (present : List ℕ) (xs ys : List A) (i : ℕ) → length xs ≡ length ys
    → choose (marked present) xs ≡ choose (marked present) ys → eqb 1 (get_or present i 0) ≡ true → get_or xs i d ≡ get_or ys i d
chosen_at d [] xs ys i l e h = absurd (true≢false (sym h))
chosen_at d (m ∷ ms) [] [] i l e h = refl
chosen_at d (m ∷ ms) [] (y ∷ ys) i l e h = absurd (omega arith)
chosen_at d (m ∷ ms) (x ∷ xs) [] i l e h = absurd (omega arith)
chosen_at d (m ∷ ms) (x ∷ xs) (y ∷ ys) zero l e h = first_chosen d (eqb 1 m) (marked ms) x y xs ys e h
chosen_at d (m ∷ ms) (x ∷ xs) (y ∷ ys) (suc i) l e h = chosen_at d ms xs ys i (suc_inj l) (later_chosen (eqb 1 m) (marked ms) x y xs ys e) h

-- ---- blocks

shifted_from : {B : Type 0} (f g : ℕ → B) (a n : ℕ) → ((i : ℕ) → f (suc i) ≡ g i) → map f (from (suc a) n) ≡ map g (from a n)
unfolding from
shifted_from f g a zero h = refl
shifted_from {B} f g a (suc n) h = ap₂ (λ (z : B) (zs : List B). z ∷ zs) (h a) (shifted_from f g (suc a) n h)

pub blocks_length : (w n : ℕ) (messages : List ℕ) → length (blocks w n messages) ≡ n
unfolding blocks
blocks_length w n messages = length-map (from 0 n) (λ i. take w (drop (w * i) messages)) ∙ length_from 0 n

pub block_at : (w n : ℕ) (messages : List ℕ) (i : ℕ) → i < n → get_or (blocks w n messages) i [] ≡ take w (drop (i * w) messages)
unfolding blocks
block_at w n messages i h =
    let z : 0 + i ≡ i = omega arith in
    map_from (λ i. take w (drop (w * i) messages)) [] 0 n i h
    ∙ ap (λ (k : ℕ). take w (drop (w * k) messages)) z ∙ ap (λ (k : ℕ). take w (drop k messages)) (mul_comm w i)

blocks_more : (w n : ℕ) (x messages : List ℕ) → length x ≡ w → blocks w (suc n) (x ++ messages) ≡ x ∷ blocks w n messages
unfolding blocks from
blocks_more w n x messages l =
    ap₂ (λ (z : List ℕ) (zs : List (List ℕ)). z ∷ zs)
    (ap (λ (k : ℕ). take w (drop k (x ++ messages))) (mul-zero w) ∙ take_at x messages w l)
    (shifted_from (λ i. take w (drop (w * i) (x ++ messages))) (λ i. take w (drop (w * i) messages)) 0 n
    (λ i.
    let e : w * suc i ≡ w + w * i = omega arith in
    ap (λ (k : ℕ). take w (drop k (x ++ messages))) e
    ∙ ap (take w) (sym (drop-drop (w * i) w (x ++ messages)) ∙ ap (drop (w * i)) (drop_at x messages w l))))

no_blocks : (w : ℕ) → blocks w 0 [] ≡ []
unfolding blocks from
no_blocks w = refl

-- what is put together is taken apart
pub blocks_flat : (w : ℕ) (xss : List (List ℕ)) → Each (λ xs. length xs ≡ w) xss → blocks w (length xss) (flat xss) ≡ xss
unfolding flat
blocks_flat w [] h = no_blocks w
blocks_flat w (x ∷ xss) h = blocks_more w (length xss) x (flat xss) h.0 ∙ ap (λ (z : List (List ℕ)). x ∷ z) (blocks_flat w xss h.1)

-- a column of the messages is one of the blocks
pub column_blocks : (n w j : ℕ) (messages : List ℕ) → j < w → column n w j messages ≡ map (λ b. get_or b j 0) (blocks w n messages)
unfolding column blocks
column_blocks n w j messages h =
    same_from (λ i. get_or messages (j + i * w) 0) (λ i. get_or (take w (drop (w * i) messages)) j 0) 0 n
    (λ i l k.
    let e : j + i * w ≡ w * i + j = omega arith in
    ap (λ (m : ℕ). get_or messages m 0) e ∙ sym (get_or-take w (drop (w * i) messages) j 0 h ∙ get_or-drop (w * i) messages j 0))
    ∙ sym (map-map (λ b. get_or b j 0) (λ i. take w (drop (w * i) messages)) (from 0 n))

-- where each says one word, the messages are the column
pub one_column : (n : ℕ) (messages : List ℕ) → length messages ≡ n → column n 1 0 messages ≡ messages
one_column n messages l =
    ext_get_or 0 (column n 1 0 messages) messages (column_length n 1 0 messages ∙ sym l)
    (λ i h.
    let e : 0 + i * 1 ≡ i = omega arith in
    column_at n 1 0 messages i (omega (arith, column_length n 1 0 messages)) ∙ ap (λ (k : ℕ). get_or messages k 0) e)
