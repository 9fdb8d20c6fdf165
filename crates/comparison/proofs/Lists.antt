-- Two lists place by place, and what holds of each of a list. Assumes nothing.
use mathlib.Core.Path.{◌≡◌, refl, ap}
use mathlib.Core.List.{List, [], ◌∷◌, ◌++◌, map}
use Prim.Native.Nat.{ℕ, zero, suc, ◌<◌}
use native.Mathlib.Nat.{le_of_suc-le-suc}
use native.Mathlib.Omega.{arith}
use lib.ListN.{length, take, drop, get_or}
use Rattle.comparison.specs.Probe.{Each}

-- ---- what holds of each

module _ {A : Type 0} (P : A → Type 0) where
  pub each_at : (xs : List A) (i : ℕ) (d : A) → Each P xs → i < length xs → P (get_or xs i d)
  each_at [] i d h l = absurd (omega arith)
  each_at (x ∷ xs) zero d h l = h.0
  each_at (x ∷ xs) (suc i) d h l = each_at xs i d h.1 (le_of_suc-le-suc l)

  pub each_drop : (i : ℕ) (xs : List A) → Each P xs → Each P (drop i xs)
  each_drop zero xs h = h
  each_drop (suc i) [] h = tt
  each_drop (suc i) (x ∷ xs) h = each_drop i xs h.1

  pub each_take : (k : ℕ) (xs : List A) → Each P xs → Each P (take k xs)
  each_take zero xs h = tt
  each_take (suc k) [] h = tt
  each_take (suc k) (x ∷ xs) h = (h.0, each_take k xs h.1)

  pub each_append : (xs ys : List A) → Each P xs → Each P ys → Each P (xs ++ ys)
  each_append [] ys h k = k
  each_append (x ∷ xs) ys h k = (h.0, each_append xs ys h.1 k)

  pub each_append_left : (xs ys : List A) → Each P (xs ++ ys) → Each P xs
  each_append_left [] ys h = tt
  each_append_left (x ∷ xs) ys h = (h.0, each_append_left xs ys h.1)

  pub each_append_right : (xs ys : List A) → Each P (xs ++ ys) → Each P ys
  each_append_right [] ys h = h
  each_append_right (x ∷ xs) ys h = each_append_right xs ys h.1

-- ---- place by place

abbrev pub Pairs : {A B : Type 0} → (A → B → Type 0) → List A → List B → Type 0
Pairs R [] [] = Unit {0}
Pairs R [] (b ∷ bs) = ⊥
Pairs R (a ∷ as') [] = ⊥
Pairs R (a ∷ as') (b ∷ bs) = R a b × Pairs R as' bs

module _ {A B : Type 0} (R : A → B → Type 0) where
  pub pairs_at : (as' : List A) (bs : List B) (k : ℕ) (a : A) (b : B) → Pairs R as' bs → k < length as' → R (get_or as' k a) (get_or bs k b)
  pairs_at [] bs k a b h l = absurd (omega arith)
  pairs_at (a' ∷ as') [] k a b h l = absurd h
  pairs_at (a' ∷ as') (b' ∷ bs) zero a b h l = h.0
  pairs_at (a' ∷ as') (b' ∷ bs) (suc k) a b h l = pairs_at as' bs k a b h.1 (omega arith)

  pub pairs_length : (as' : List A) (bs : List B) → Pairs R as' bs → length as' ≡ length bs
  pairs_length [] [] h = refl
  pairs_length [] (b ∷ bs) h = absurd h
  pairs_length (a ∷ as') [] h = absurd h
  pairs_length (a ∷ as') (b ∷ bs) h = ap suc (pairs_length as' bs h.1)

  pub pairs_drop : (k : ℕ) (as' : List A) (bs : List B) → Pairs R as' bs → Pairs R (drop k as') (drop k bs)
  pairs_drop zero as' bs h = h
  pairs_drop (suc k) [] [] h = tt
  pairs_drop (suc k) [] (b ∷ bs) h = absurd h
  pairs_drop (suc k) (a ∷ as') [] h = absurd h
  pairs_drop (suc k) (a ∷ as') (b ∷ bs) h = pairs_drop k as' bs h.1

  pub pairs_take : (k : ℕ) (as' : List A) (bs : List B) → Pairs R as' bs → Pairs R (take k as') (take k bs)
  pairs_take zero as' bs h = tt
  pairs_take (suc k) [] [] h = tt
  pairs_take (suc k) [] (b ∷ bs) h = absurd h
  pairs_take (suc k) (a ∷ as') [] h = absurd h
  pairs_take (suc k) (a ∷ as') (b ∷ bs) h = (h.0, pairs_take k as' bs h.1)

  pub pairs_append : (as' : List A) (bs : List B) (cs : List A) (ds : List B) → Pairs R as' bs → Pairs R cs ds → Pairs R (as' ++ cs) (bs ++ ds)
  pairs_append [] [] cs ds h k = k
  pairs_append [] (b ∷ bs) cs ds h k = absurd h
  pairs_append (a ∷ as') [] cs ds h k = absurd h
  pairs_append (a ∷ as') (b ∷ bs) cs ds h k = (h.0, pairs_append as' bs cs ds h.1 k)

  pub pairs_map : {P : A → Type 0} (f : A → B) → ((a : A) → P a → R a (f a)) → (as' : List A) → Each P as' → Pairs R as' (map f as')
  pairs_map f law [] h = tt
  pairs_map f law (a ∷ as') h = (law a h.0, pairs_map f law as' h.1)
