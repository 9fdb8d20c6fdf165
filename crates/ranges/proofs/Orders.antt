-- Lists in another order: two neighbours may change places, and what is in the one is in the other. Assumes nothing.
use Rattle.std.proofs.Common.{◌≡◌, ℕ, Bool, true, false, ◌&&◌, ◌||◌, eqb, List, [], ◌∷◌, ◌++◌, sym, refl, ap, ap₂, eq-eqb, eqb-true}
use Rattle.ranges.specs.Lists.{every, member}
use Rattle.ranges.specs.Orders.{Shuffle}
use Rattle.ranges.proofs.Loops.{and-true}

module _ {A : Type 0} where
  -- two neighbours may have changed places
  data Swapped : List A → List A → Type 0 where
    none : {l : List A} → Swapped l l
    here : {x y : A} {l : List A} → Swapped (x ∷ y ∷ l) (y ∷ x ∷ l)
    there : {x : A} {l m : List A} → Swapped l m → Swapped (x ∷ l) (x ∷ m)

  -- the second list is the first with c put in
  data Put (c : A) : List A → List A → Type 0 where
    first : {l : List A} → Put c l (c ∷ l)
    later : {x : A} {l m : List A} → Put c l m → Put c (x ∷ l) (x ∷ m)

  put_at : (c : A) (ds es : List A) → Put c (ds ++ es) (ds ++ (c ∷ es))
  put_at c [] es = first
  put_at c (d ∷ ds) es = later (put_at c ds es)

  put_where : {c : A} {l m : List A} → Put c l m → (ds : List A) × (es : List A) × (l ≡ ds ++ es) × (m ≡ ds ++ (c ∷ es))
  put_where (first {l}) = ([], l, refl, refl)
  put_where (later {x} p) = let w = put_where p in (x ∷ w.0, w.1, ap (λ l. x ∷ l) w.2, ap (λ l. x ∷ l) w.3)

  shuffle_put : {c : A} {cs l m : List A} → Put c l m → Shuffle cs l → Shuffle (c ∷ cs) m
  shuffle_put {c} {cs} p s = let w = put_where p in rw w.3 (Shuffle.next w.0 w.1 (rw w.2 at s))

  swap_put : {c : A} {l m m' : List A} → Put c l m → Swapped m m' → (l' : List A) × Swapped l l' × Put c l' m'
  swap_put (first {l}) none = (l, none, first)
  swap_put first (here {y} {l}) = (y ∷ l, none, later first)
  swap_put first (there {m} s) = (m, s, first)
  swap_put (later {x} {l} p) none = (x ∷ l, none, later p)
  swap_put (later {x} (first {l})) here = (x ∷ l, none, first)
  swap_put (later {x} (later {x = y} {l} p)) here = (y ∷ x ∷ l, here, later (later p))
  swap_put (later {x} p) (there s) = let w = swap_put p s in (x ∷ w.0, there w.1, later w.2)

  shuffle_swapped : {cs ds es : List A} → Shuffle cs ds → Swapped ds es → Shuffle cs es
  shuffle_swapped Shuffle.end none = Shuffle.end
  shuffle_swapped (Shuffle.next {x = c} ds es h) s = let w = swap_put (put_at c ds es) s in shuffle_put w.2 (shuffle_swapped h w.1)

  swapped_at : (x y : A) (ds es : List A) → Swapped (ds ++ (x ∷ y ∷ es)) (ds ++ (y ∷ x ∷ es))
  swapped_at x y [] es = here
  swapped_at x y (d ∷ ds) es = there (swapped_at x y ds es)

  pub shuffle_swap : (cs : List A) (x y : A) (ds es : List A) → Shuffle cs (ds ++ (x ∷ y ∷ es)) → Shuffle cs (ds ++ (y ∷ x ∷ es))
  shuffle_swap cs x y ds es h = shuffle_swapped h (swapped_at x y ds es)

  pub shuffle_refl : (l : List A) → Shuffle l l
  shuffle_refl [] = Shuffle.end
  shuffle_refl (c ∷ cs) = Shuffle.next [] cs (shuffle_refl cs)

-- ---- numbers

module _ (test : ℕ → Bool) where
  put_every : (x : ℕ) (ys zs : List ℕ) → test x ≡ true → every test (ys ++ zs) ≡ true → every test (ys ++ (x ∷ zs)) ≡ true
  unfolding every
  put_every x [] zs e h = ap₂ ◌&&◌ e h
  put_every x (y ∷ ys) zs e h = let w = and-true (test y) (every test (ys ++ zs)) h in ap₂ ◌&&◌ w.0 (put_every x ys zs e w.1)

  pub shuffle_every : {xs ys : List ℕ} → Shuffle xs ys → every test xs ≡ true → every test ys ≡ true
  unfolding every
  shuffle_every Shuffle.end h = h
  shuffle_every (Shuffle.next {x} {xs} ys zs s) h =
      let w = and-true (test x) (every test xs) h in
      put_every x ys zs w.0 (shuffle_every s w.1)

or_true : (a b : Bool) → b ≡ true → a || b ≡ true
or_true true b e = refl
or_true false b e = e

or_more : (a : Bool) {b c : Bool} → (b ≡ true → c ≡ true) → a || b ≡ true → a || c ≡ true
or_more true go h = refl
or_more false go h = go h

module _ (e : ℕ) where
  put_here : (ys zs : List ℕ) → member e (ys ++ (e ∷ zs)) ≡ true
  unfolding member
  put_here [] zs = ap (λ b. b || member e zs) (eq-eqb e e refl)
  put_here (y ∷ ys) zs = or_true (eqb e y) _ (put_here ys zs)

  put_member : (x : ℕ) (ys zs : List ℕ) → member e (ys ++ zs) ≡ true → member e (ys ++ (x ∷ zs)) ≡ true
  unfolding member
  put_member x [] zs h = or_true (eqb e x) _ h
  put_member x (y ∷ ys) zs h = or_more (eqb e y) (λ k. put_member x ys zs k) h

  pub shuffle_member : {xs ys : List ℕ} → Shuffle xs ys → member e xs ≡ true → member e ys ≡ true
  unfolding member
  shuffle_member Shuffle.end h = h
  shuffle_member (Shuffle.next {x} {xs} ys zs s) h = cases (eqb e x) refl h (λ k. shuffle_member s k)
    where
      cases : (b : Bool) → eqb e x ≡ b → b || member e xs ≡ true → (member e xs ≡ true → member e (ys ++ zs) ≡ true) → member e (ys ++ (x ∷ zs)) ≡ true
      cases true f k go = rw (sym (eqb-true e x f)) (put_here ys zs)
      cases false f k go = put_member x ys zs (go k)
