-- Over a commutative ring: weighted sums of shares, and the words that are shares by those sums. Assumes nothing.
use mathlib.Core.Path.{◌≡◌, refl, sym, ap, ap₂, ◌∙◌, ◌≡⟨◌⟩◌, ◌∎}
use mathlib.Core.List.{List, [], ◌∷◌, ◌++◌, append_assoc, head-eq_of_cons-eq, tail-eq_of_cons-eq}
use Prim.Native.Nat.{ℕ, zero, suc, ◌+◌, ◌≤◌}
use native.Mathlib.Nat.{suc_inj}
use native.Mathlib.Omega.{arith}
use lib.ListN.{length, replicate, length-append}
use Rattle.fields.specs.Ring.{Ops, Ring}
use Rattle.fields.proofs.Ring.{semi, mul-zero, unit_cancel}
use Rattle.sharing.specs.Polynomial.{value, shares}
use Rattle.weights.specs.Products.{products}
use Rattle.openings.specs.Opening.{total, moments}
use Rattle.weights.proofs.Products.{length_products}
use Rattle.sharing.proofs.Newton.{Distinct, newton, length_newton, shares_newton}

module _ {A : Type 0} (O : Ops A) where
  -- k zeros and then this
  abbrev pub ending : ℕ → A → List A
  ending zero top = top ∷ []
  ending (suc k) top = O.zero ∷ ending k top

  -- Weights of the points xs, k + 1 of them: their sum is 1, with x, x^2, .. x^k it is 0, and with x^(k+1) it has an inverse.
  pub record Weighing (k : ℕ) (xs w : List A) (top inverse : A) : Type 0 where
    pub points_many : length xs ≡ suc k
    pub weights_many : length w ≡ suc k
    pub rule : moments O (suc (suc k)) xs w ≡ O.one ∷ ending k top
    pub unit : O.mul top inverse ≡ O.one

module _ {A : Type 0} {O : Ops A} (R : Ring O) where
  open O use {add as ◌+ₐ◌, mul as ◌*ₐ◌, zero as 𝟘, one as 𝟙}

  infixl 65 ◌+ₐ◌
  infixl 70 ◌*ₐ◌
  -- ---- a weighted sum of shares is a sum of coefficients weighted by moments

  weigh_nil : (w xs : List A) → total O (products O w (shares O [] xs)) ≡ 𝟘
  unfolding products total value
  weigh_nil [] xs = refl
  weigh_nil (w ∷ ws) [] = refl
  weigh_nil (w ∷ ws) (x ∷ xs) = rw (weigh_nil ws xs) (simp (semi, R))

  cons_step : (c w x P D S U : A) → D ≡ c *ₐ S +ₐ U → w *ₐ (c +ₐ x *ₐ P) +ₐ D ≡ c *ₐ (w +ₐ S) +ₐ (x *ₐ w *ₐ P +ₐ U)
  cons_step c w x P D S U h = rw h (simp (semi, R))

  weigh_cons : (c : A) (cs w xs : List A) → length w ≡ length xs
      → total O (products O w (shares O (c ∷ cs) xs)) ≡ c *ₐ total O w +ₐ total O (products O (products O xs w) (shares O cs xs))
  unfolding products total value
  weigh_cons c cs [] [] h = simp (semi, R)
  weigh_cons c cs [] (x ∷ xs) h = absurd (omega arith)
  weigh_cons c cs (w ∷ ws) [] h = absurd (omega arith)
  weigh_cons c cs (w ∷ ws) (x ∷ xs) h = cons_step c w x (value O cs x) _ _ _ (weigh_cons c cs ws xs (suc_inj h))

  exchanged : (cs w xs : List A) (m : ℕ) → length w ≡ length xs → length cs ≤ m
      → total O (products O w (shares O cs xs)) ≡ total O (products O cs (moments O m xs w))
  unfolding products total moments
  exchanged [] w xs m l h = weigh_nil w xs
  exchanged (c ∷ cs) w xs zero l h = absurd (omega arith)
  exchanged (c ∷ cs) w xs (suc m) l h =
      weigh_cons c cs w xs l
      ∙ ap (λ (z : A). c *ₐ total O w +ₐ z) (exchanged cs (products O xs w) xs m (length_products O xs w (sym l) ∙ l) (omega arith))

  short : (cs : List A) (k : ℕ) (top : A) → length cs ≤ k → total O (products O cs (ending O k top)) ≡ 𝟘
  unfolding products total
  short [] k top h = refl
  short (c ∷ cs) zero top h = absurd (omega arith)
  short (c ∷ cs) (suc k) top h = rw (short cs k top (omega arith)) (simp (semi, R))

  full : (cs : List A) (c : A) (k : ℕ) (top : A) → length cs ≡ k → total O (products O (cs ++ (c ∷ [])) (ending O k top)) ≡ c *ₐ top
  unfolding products total
  full [] c zero top h = R.add-zero (c *ₐ top)
  full [] c (suc k) top h = absurd (omega arith)
  full (d ∷ cs) c zero top h = absurd (omega arith)
  full (d ∷ cs) c (suc k) top h = rw (full cs c k top (suc_inj h)) (simp (semi, R))

  -- times the points, the shares of f are those of x f
  raised : (w cs xs : List A) → products O xs (products O w (shares O cs xs)) ≡ products O w (shares O (𝟘 ∷ cs) xs)
  unfolding products value
  raised [] cs [] = refl
  raised [] cs (x ∷ xs) = refl
  raised (w ∷ ws) cs [] = refl
  raised (w ∷ ws) cs (x ∷ xs) = ap₂ (λ (z : A) (zs : List A). z ∷ zs) (simp (semi, R)) (raised ws cs xs)

  -- ---- a coefficient of 0 at the end changes nothing

  value_trailing : (cs : List A) (x : A) → value O (cs ++ (𝟘 ∷ [])) x ≡ value O cs x
  unfolding value
  value_trailing [] x = simp (semi, R)
  value_trailing (c ∷ cs) x = ap (λ (z : A). c +ₐ x *ₐ z) (value_trailing cs x)

  shares_trailing : (cs xs : List A) → shares O (cs ++ (𝟘 ∷ [])) xs ≡ shares O cs xs
  shares_trailing cs [] = refl
  shares_trailing cs (x ∷ xs) = ap₂ (λ (z : A) (zs : List A). z ∷ zs) (value_trailing cs x) (shares_trailing cs xs)

  last : (cs : List A) (m : ℕ) → suc m ≤ length cs → (g : List A) × (c : A) × (cs ≡ g ++ (c ∷ []))
  last [] m h = absurd (omega arith)
  last (c ∷ []) m h = ([], c, refl)
  last (c ∷ d ∷ cs) m h =
      let r : (g : List A) × (e : A) × (d ∷ cs ≡ g ++ (e ∷ [])) = last (d ∷ cs) zero (omega arith) in
      (c ∷ r.0, r.1, ap (λ (z : List A). c ∷ z) r.2)

  module _ {k : ℕ} {xs w : List A} {top inverse : A} (W : Weighing O k xs w top inverse) where
    weigh : (s : A) (ds : List A) → length ds ≤ suc k → total O (products O w (shares O (s ∷ ds) xs)) ≡ s +ₐ total O (products O ds (ending O k top))
    unfolding products total
    weigh s ds h =
        exchanged (s ∷ ds) w xs (suc (suc k)) (W.weights_many ∙ sym W.points_many) (omega arith)
        ∙ ap (λ (z : List A). total O (products O (s ∷ ds) z)) W.rule
        ∙ ap (λ (z : A). z +ₐ total O (products O ds (ending O k top))) (R.mul-one s)

    weigh_short : (s : A) (ds : List A) → length ds ≤ k → total O (products O w (shares O (s ∷ ds) xs)) ≡ s
    weigh_short s ds h = weigh s ds (omega arith) ∙ ap (λ (z : A). s +ₐ z) (short ds k top h) ∙ R.add-zero s

    silent : (m : ℕ) (ds : List A) → m + length ds ≤ suc k → moments O m xs (products O w (shares O (𝟘 ∷ ds) xs)) ≡ replicate m 𝟘
    unfolding moments
    silent zero ds h = refl
    silent (suc m) ds h =
        ap₂ (λ (z : A) (zs : List A). z ∷ zs) (weigh_short 𝟘 ds (omega arith))
        (ap (moments O m xs) (raised w (𝟘 ∷ ds) xs) ∙ silent m (𝟘 ∷ ds) (omega arith))

    -- the shares of s total s, and of x f, x^2 f, .. they total 0
    pub weighted : (s : A) (cs : List A) (m : ℕ) → length cs + m ≤ k
        → moments O (suc m) xs (products O w (shares O (s ∷ cs) xs)) ≡ s ∷ replicate m 𝟘
    unfolding moments
    weighted s cs m h =
        ap₂ (λ (z : A) (zs : List A). z ∷ zs) (weigh_short s cs (omega arith))
        (ap (moments O m xs) (raised w (s ∷ cs) xs) ∙ silent m (s ∷ cs) (omega arith))

    -- where x^j f, of degree k + 1, totals 0, the last coefficient of f is 0
    vanishes : (zs g : List A) (c : A) → length zs + length g ≡ k → total O (products O w (shares O (𝟘 ∷ (zs ++ (g ++ (c ∷ [])))) xs)) ≡ 𝟘 → c ≡ 𝟘
    vanishes zs g c l h =
        let long : length (zs ++ (g ++ (c ∷ []))) ≤ suc k = simp length-append (omega arith) in
        let e : 𝟘 +ₐ c *ₐ top ≡ 𝟘 =
        ap (λ (z : A). 𝟘 +ₐ z) (sym (full (zs ++ g) c k top (length-append zs g ∙ l)) ∙ ap (λ (z : List A). total O (products O z (ending O k top))) (append_assoc zs g (c ∷ [])))
        ∙ sym (weigh 𝟘 (zs ++ (g ++ (c ∷ []))) long) ∙ h in
        unit_cancel R top inverse c 𝟘 W.unit
        (top *ₐ c ≡⟨ (simp (semi, R)) ⟩
        𝟘 +ₐ c *ₐ top ≡⟨ e ∙ sym (mul-zero R top) ⟩
        top *ₐ 𝟘 ∎)

    -- the same shares with m coefficients less
    abbrev Shorter : ℕ → List A → Type 0
    Shorter m ds = (es : List A) × (length es + m ≡ length ds) × (shares O es xs ≡ shares O ds xs)

    shorten : (m : ℕ) (g ds : List A) → ds ≡ g ++ (𝟘 ∷ []) → Shorter m g → Shorter (suc m) ds
    shorten m g ds e r =
        let l : length ds ≡ length g + 1 = ap length e ∙ length-append g (𝟘 ∷ []) in
        (r.0, omega (arith, r.1), r.2 ∙ sym (shares_trailing g xs) ∙ ap (λ (c : List A). shares O c xs) (sym e))

    -- where m more such totals are 0, m coefficients can go
    descend : (m : ℕ) (zs ds : List A) → length zs + length ds ≡ suc k → m ≤ length ds
        → moments O m xs (products O w (shares O (𝟘 ∷ (zs ++ ds)) xs)) ≡ replicate m 𝟘 → Shorter m ds
    unfolding moments
    descend zero zs ds l h t = (ds, omega arith, refl)
    descend (suc m) zs ds l h t =
        let v : (g : List A) × (c : A) × (ds ≡ g ++ (c ∷ [])) = last ds m h in
        let g : List A = v.0 in
        let lg : length ds ≡ length g + 1 = ap length v.2 ∙ length-append g (v.1 ∷ []) in
        let z : v.1 ≡ 𝟘 = vanishes zs g v.1 (omega arith) (rw v.2 at (head-eq_of_cons-eq t)) in
        let e : ds ≡ g ++ (𝟘 ∷ []) = v.2 ∙ ap (λ (c : A). g ++ (c ∷ [])) z in
        let same : shares O (𝟘 ∷ 𝟘 ∷ (zs ++ ds)) xs ≡ shares O (𝟘 ∷ 𝟘 ∷ (zs ++ g)) xs =
        ap (λ (c : List A). shares O (𝟘 ∷ 𝟘 ∷ c) xs) (ap (λ (c : List A). zs ++ c) e ∙ sym (append_assoc zs g (𝟘 ∷ [])))
        ∙ shares_trailing (𝟘 ∷ 𝟘 ∷ (zs ++ g)) xs in
        shorten m g ds e
        (descend m (𝟘 ∷ zs) g (omega arith) (omega arith)
        (ap (moments O m xs) (ap (products O w) (sym same) ∙ sym (raised w (𝟘 ∷ (zs ++ ds)) xs)) ∙ tail-eq_of_cons-eq t))

    -- the first of the coefficients left is the total
    named : (s : A) (m : ℕ) (words es : List A) → length es + m ≡ suc k → m ≤ k → shares O es xs ≡ words → total O (products O w words) ≡ s
        → (cs : List A) × (suc (length cs) + m ≡ suc k) × (shares O (s ∷ cs) xs ≡ words)
    named s m words [] l h e t = absurd (omega arith)
    named s m words (a ∷ cs) l h e t =
        let z : a ≡ s = sym (weigh_short a cs (omega arith)) ∙ ap (λ (v : List A). total O (products O w v)) e ∙ t in
        (cs, l, ap (λ (c : A). shares O (c ∷ cs) xs) (sym z) ∙ e)

    -- words that total s, and with x, x^2, .. x^m total 0, are the shares of s by a polynomial with k + 1 - m coefficients
    pub through : (gap : A → A → A) → Distinct O gap xs → (s : A) (words : List A) (m : ℕ) → length words ≡ suc k → m ≤ k
        → moments O (suc m) xs (products O w words) ≡ s ∷ replicate m 𝟘
        → (cs : List A) × (suc (length cs) + m ≡ suc k) × (shares O (s ∷ cs) xs ≡ words)
    unfolding moments
    through gap D s words m l h t =
        let f : List A = newton O gap xs words in
        let e : shares O f xs ≡ words = shares_newton R gap xs words D (l ∙ sym W.points_many) in
        let lf : length f ≡ suc k = length_newton O gap xs words (l ∙ sym W.points_many) ∙ W.points_many in
        let r : Shorter m f =
        descend m [] f (omega arith) (omega arith)
        (ap (moments O m xs) (sym (raised w f xs) ∙ ap (λ (z : List A). products O xs (products O w z)) e) ∙ tail-eq_of_cons-eq t) in
        named s m words r.0 (r.1 ∙ lf) h (r.2 ∙ e) (head-eq_of_cons-eq t)
