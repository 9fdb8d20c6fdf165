-- Over a commutative ring: words lowered by one of them are those of a polynomial of one degree less with the same value at 0, and
-- only those of one. So words that are lowered t times agree where they are those of a polynomial of degree at most t. Assumes nothing.
use mathlib.Core.Path.{◌≡◌, refl, sym, ap, ap₂, ◌∙◌, ◌≡⟨◌⟩◌, ◌∎}
use mathlib.Core.List.{List, [], ◌∷◌, head-eq_of_cons-eq, tail-eq_of_cons-eq}
use Prim.Native.Nat.{ℕ, zero, suc, ◌+◌}
use native.Mathlib.Nat.{suc_inj, add-zero}
use native.Mathlib.Omega.{arith}
use lib.ListN.{length, replicate, length-map}
use Rattle.fields.specs.Ring.{Ops, Ring, sub}
use Rattle.fields.proofs.Ring.{semi, add_sub, cancel, mul-zero, neg_zero}
use Rattle.sharing.specs.Polynomial.{value, shares}
use Rattle.sharing.specs.Linear.{scaled}
use Rattle.lowering.specs.Lines.{lowered, descended}
use Rattle.sharing.proofs.Newton.{Far, Distinct, times, quotient, length_times, length_quotient, value_times, times_quotient, at_root}
use Rattle.sharing.proofs.Linear.{value_scaled}

module _ {A : Type 0} (O : Ops A) (gap : A → A → A) where
  pub length_lowered : (r y : A) (xs zs : List A) → length zs ≡ length xs → length (lowered O gap r y xs zs) ≡ length xs
  unfolding lowered
  length_lowered r y [] zs l = refl
  length_lowered r y (x ∷ xs) [] l = absurd (omega arith)
  length_lowered r y (x ∷ xs) (z ∷ zs) l = ap suc (length_lowered r y xs zs (suc_inj l))

module _ {A : Type 0} {O : Ops A} (R : Ring O) where
  open O use {add as ◌+ₐ◌, mul as ◌*ₐ◌, neg, zero as 𝟘, one as 𝟙}

  infixl 65 ◌+ₐ◌
  infixl 70 ◌*ₐ◌
  -- y - z is e where e + z is y
  sub_add : (y z : A) → sub O y z +ₐ z ≡ y
  sub_add y z = R.add_comm (sub O y z) z ∙ add_sub R y z

  -- The polynomial is s + x (q + (x - r) Q), y its value at r; d is z - r and u its inverse.
  down_step : (s r q z d u Q e n : A) → r +ₐ d ≡ z → d *ₐ u ≡ 𝟙 → e +ₐ (s +ₐ z *ₐ (q +ₐ d *ₐ Q)) ≡ s +ₐ r *ₐ q → r +ₐ n ≡ 𝟘
      → s +ₐ r *ₐ q +ₐ e *ₐ (r *ₐ u) ≡ s +ₐ z *ₐ (n *ₐ Q)
  down_step s r q z d u Q e n hd hu he hn =
      let K : A = q +ₐ z *ₐ Q in
      let lost : e +ₐ d *ₐ K ≡ 𝟘 =
      cancel R (e +ₐ d *ₐ K) 𝟘 (s +ₐ r *ₐ q)
      (e +ₐ d *ₐ (q +ₐ z *ₐ Q) +ₐ (s +ₐ r *ₐ q) ≡⟨ (simp (semi, R)) ⟩
      e +ₐ (s +ₐ ((r +ₐ d) *ₐ q +ₐ z *ₐ (d *ₐ Q))) ≡⟨ ap (λ (k : A). e +ₐ (s +ₐ (k *ₐ q +ₐ z *ₐ (d *ₐ Q)))) hd ⟩
      e +ₐ (s +ₐ (z *ₐ q +ₐ z *ₐ (d *ₐ Q))) ≡⟨ (simp (semi, R)) ⟩
      e +ₐ (s +ₐ z *ₐ (q +ₐ d *ₐ Q)) ≡⟨ he ⟩
      s +ₐ r *ₐ q ≡⟨ (simp (semi, R)) ⟩
      𝟘 +ₐ (s +ₐ r *ₐ q) ∎) in
      cancel R (s +ₐ r *ₐ q +ₐ e *ₐ (r *ₐ u)) (s +ₐ z *ₐ (n *ₐ Q)) (r *ₐ K)
      (s +ₐ r *ₐ q +ₐ e *ₐ (r *ₐ u) +ₐ r *ₐ K ≡⟨ (simp (semi, R)) ⟩
      s +ₐ r *ₐ q +ₐ e *ₐ (r *ₐ u) +ₐ r *ₐ 𝟙 *ₐ K ≡⟨ ap (λ (k : A). s +ₐ r *ₐ q +ₐ e *ₐ (r *ₐ u) +ₐ r *ₐ k *ₐ K) (sym hu) ⟩
      s +ₐ r *ₐ q +ₐ e *ₐ (r *ₐ u) +ₐ r *ₐ (d *ₐ u) *ₐ K ≡⟨ (simp (semi, R)) ⟩
      s +ₐ r *ₐ q +ₐ (e +ₐ d *ₐ K) *ₐ (r *ₐ u) ≡⟨ ap (λ (k : A). s +ₐ r *ₐ q +ₐ k *ₐ (r *ₐ u)) lost ⟩
      s +ₐ r *ₐ q +ₐ 𝟘 *ₐ (r *ₐ u) ≡⟨ (simp (semi, R)) ⟩
      s +ₐ r *ₐ q +ₐ 𝟘 *ₐ (z *ₐ Q) ≡⟨ ap (λ (k : A). s +ₐ r *ₐ q +ₐ k *ₐ (z *ₐ Q)) (sym hn) ⟩
      s +ₐ r *ₐ q +ₐ (r +ₐ n) *ₐ (z *ₐ Q) ≡⟨ (simp (semi, R)) ⟩
      s +ₐ z *ₐ (n *ₐ Q) +ₐ r *ₐ (q +ₐ z *ₐ Q) ∎)

  -- The lowered polynomial is s + x C; w is the word at z, d is z - r and v its inverse, u that of r.
  up_step : (s r y k u n z w d v e C : A) → k +ₐ s ≡ y → r *ₐ u ≡ 𝟙 → u +ₐ n ≡ 𝟘 → r +ₐ d ≡ z → d *ₐ v ≡ 𝟙 → e +ₐ w ≡ y
      → s +ₐ z *ₐ C ≡ y +ₐ e *ₐ (r *ₐ v) → s +ₐ z *ₐ (k *ₐ u +ₐ d *ₐ (n *ₐ C)) ≡ w
  up_step s r y k u n z w d v e C hk hu hn hd hv he h =
      let C_is : z *ₐ C ≡ k +ₐ e *ₐ (r *ₐ v) =
      cancel R (z *ₐ C) (k +ₐ e *ₐ (r *ₐ v)) s
      (z *ₐ C +ₐ s ≡⟨ R.add_comm (z *ₐ C) s ∙ h ⟩
      y +ₐ e *ₐ (r *ₐ v) ≡⟨ ap (λ (x : A). x +ₐ e *ₐ (r *ₐ v)) (sym hk) ⟩
      k +ₐ s +ₐ e *ₐ (r *ₐ v) ≡⟨ (simp (semi, R)) ⟩
      k +ₐ e *ₐ (r *ₐ v) +ₐ s ∎) in
      cancel R (s +ₐ z *ₐ (k *ₐ u +ₐ d *ₐ (n *ₐ C))) w (u *ₐ d *ₐ (z *ₐ C))
      (s +ₐ z *ₐ (k *ₐ u +ₐ d *ₐ (n *ₐ C)) +ₐ u *ₐ d *ₐ (z *ₐ C) ≡⟨ (simp (semi, R)) ⟩
      s +ₐ z *ₐ (k *ₐ u) +ₐ (u +ₐ n) *ₐ (d *ₐ (z *ₐ C)) ≡⟨ ap (λ (x : A). s +ₐ z *ₐ (k *ₐ u) +ₐ x *ₐ (d *ₐ (z *ₐ C))) hn ⟩
      s +ₐ z *ₐ (k *ₐ u) +ₐ 𝟘 *ₐ (d *ₐ (z *ₐ C)) ≡⟨ (simp (semi, R)) ⟩
      s +ₐ z *ₐ (k *ₐ u) ≡⟨ ap (λ (x : A). s +ₐ x *ₐ (k *ₐ u)) (sym hd) ⟩
      s +ₐ (r +ₐ d) *ₐ (k *ₐ u) ≡⟨ (simp (semi, R)) ⟩
      s +ₐ (k *ₐ (r *ₐ u) +ₐ u *ₐ d *ₐ k) ≡⟨ ap (λ (x : A). s +ₐ (k *ₐ x +ₐ u *ₐ d *ₐ k)) hu ⟩
      s +ₐ (k *ₐ 𝟙 +ₐ u *ₐ d *ₐ k) ≡⟨ (simp (semi, R)) ⟩
      k +ₐ s +ₐ u *ₐ d *ₐ k ≡⟨ ap (λ (x : A). x +ₐ u *ₐ d *ₐ k) (hk ∙ sym he) ⟩
      e +ₐ w +ₐ u *ₐ d *ₐ k ≡⟨ (simp (semi, R)) ⟩
      w +ₐ (u *ₐ d *ₐ k +ₐ e *ₐ (𝟙 *ₐ 𝟙)) ≡⟨ ap₂ (λ (a b : A). w +ₐ (u *ₐ d *ₐ k +ₐ e *ₐ (a *ₐ b))) (sym hu) (sym hv) ⟩
      w +ₐ (u *ₐ d *ₐ k +ₐ e *ₐ (r *ₐ u *ₐ (d *ₐ v))) ≡⟨ (simp (semi, R)) ⟩
      w +ₐ u *ₐ d *ₐ (k +ₐ e *ₐ (r *ₐ v)) ≡⟨ ap (λ (x : A). w +ₐ u *ₐ d *ₐ x) (sym C_is) ⟩
      w +ₐ u *ₐ d *ₐ (z *ₐ C) ∎)

  module _ (gap : A → A → A) where
    -- ---- one step down

    -- the lowered polynomial of s + x (c + ..)
    abbrev less : A → A → List A → List A
    less r s cs = s ∷ scaled O (neg r) (quotient O r cs)

    lowered_value : (r s c : A) (cs xs : List A) → Far O gap r xs
        → lowered O gap r (value O (s ∷ c ∷ cs) r) xs (shares O (s ∷ c ∷ cs) xs) ≡ shares O (less r s cs) xs
    unfolding lowered value
    lowered_value r s c cs [] f = refl
    lowered_value r s c cs (x ∷ xs) f =
        let q : A = value O (c ∷ cs) r in
        let Q : A = value O (quotient O r cs) x in
        let inner : value O (c ∷ cs) x ≡ q +ₐ sub O x r *ₐ Q =
        ap (λ (z : List A). value O z x) (sym (times_quotient R r c cs)) ∙ value_times R r q x (quotient O r cs) in
        let y : A = s +ₐ r *ₐ q in
        let z : A = s +ₐ x *ₐ value O (c ∷ cs) x in
        ap₂ (λ (a : A) (b : List A). a ∷ b)
        (down_step s r q x (sub O x r) (gap x r) Q (sub O y z) (neg r) (add_sub R x r) f.0
        (ap (λ (k : A). sub O y z +ₐ (s +ₐ x *ₐ k)) (sym inner) ∙ sub_add y z) (R.add_neg r)
        ∙ ap (λ (k : A). s +ₐ x *ₐ k) (sym (value_scaled R (neg r) (quotient O r cs) x)))
        (lowered_value r s c cs xs f.1)

    constant : (s : A) (xs : List A) → shares O (s ∷ []) xs ≡ replicate (length xs) s
    unfolding value
    constant s [] = refl
    constant s (x ∷ xs) = ap₂ (λ (a : A) (b : List A). a ∷ b) (ap (λ (k : A). s +ₐ k) (mul-zero R x) ∙ R.add-zero s) (constant s xs)

    -- words of a polynomial of degree at most t agree
    pub agree : (t m : ℕ) (s : A) (cs xs : List A) → Distinct O gap xs → length cs ≡ t → length xs ≡ m + t
        → descended O gap t xs (shares O (s ∷ cs) xs) ≡ replicate m s
    unfolding descended
    agree zero m s [] xs D l h = constant s xs ∙ ap (λ (k : ℕ). replicate k s) (h ∙ add-zero m)
    agree zero m s (c ∷ cs) xs D l h = absurd (omega arith)
    agree (suc t) m s [] xs D l h = absurd (omega arith)
    agree (suc t) m s (c ∷ cs) [] D l h = absurd (omega arith)
    agree (suc t) m s (c ∷ cs) (x ∷ xs) D l h =
        ap (descended O gap t xs) (lowered_value x s c cs xs D.0)
        ∙ agree t m s (scaled O (neg x) (quotient O x cs)) xs D.1
        (length-map (quotient O x cs) (O.mul (neg x)) ∙ length_quotient O x cs ∙ suc_inj l) (omega arith)

    -- ---- one step up

    raised : (r s y u : A) (cs xs zs : List A) → r *ₐ u ≡ 𝟙 → Far O gap r xs → length zs ≡ length xs
        → shares O (s ∷ cs) xs ≡ lowered O gap r y xs zs → shares O (s ∷ times O r (sub O y s *ₐ u) (scaled O (neg u) cs)) xs ≡ zs
    unfolding lowered value
    raised r s y u cs [] [] hu f l h = refl
    raised r s y u cs [] (z ∷ zs) hu f l h = absurd (omega arith)
    raised r s y u cs (x ∷ xs) [] hu f l h = absurd (omega arith)
    raised r s y u cs (x ∷ xs) (z ∷ zs) hu f l h =
        ap₂ (λ (a : A) (b : List A). a ∷ b)
        (ap (λ (k : A). s +ₐ x *ₐ k)
        (value_times R r (sub O y s *ₐ u) x (scaled O (neg u) cs)
        ∙ ap (λ (k : A). sub O y s *ₐ u +ₐ sub O x r *ₐ k) (value_scaled R (neg u) cs x))
        ∙ up_step s r y (sub O y s) u (neg u) x z (sub O x r) (gap x r) (sub O y z) (value O cs x)
        (sub_add y s) hu (R.add_neg u) (add_sub R x r) f.0 (sub_add y z) (head-eq_of_cons-eq h))
        (raised r s y u cs xs zs hu f.1 (suc_inj l) (tail-eq_of_cons-eq h))

    first : (r s y u : A) (qs : List A) → r *ₐ u ≡ 𝟙 → value O (s ∷ times O r (sub O y s *ₐ u) qs) r ≡ y
    unfolding value
    first r s y u qs hu =
        s +ₐ r *ₐ value O (times O r (sub O y s *ₐ u) qs) r ≡⟨ ap (λ (k : A). s +ₐ r *ₐ k) (at_root R r (sub O y s *ₐ u) qs) ⟩
        s +ₐ r *ₐ (sub O y s *ₐ u) ≡⟨ (simp (semi, R)) ⟩
        r *ₐ u *ₐ sub O y s +ₐ s ≡⟨ ap (λ (k : A). k *ₐ sub O y s +ₐ s) hu ⟩
        𝟙 *ₐ sub O y s +ₐ s ≡⟨ (simp (semi, R)) ⟩
        s +ₐ sub O y s ≡⟨ add_sub R y s ⟩
        y ∎

    -- the inverse of a point, as that of its difference to 0
    own_inverse : (x : A) → sub O x 𝟘 *ₐ gap x 𝟘 ≡ 𝟙 → x *ₐ gap x 𝟘 ≡ 𝟙
    own_inverse x h = ap (λ (k : A). k *ₐ gap x 𝟘) (sym (ap (λ (k : A). x +ₐ k) (neg_zero R) ∙ R.add-zero x)) ∙ h

    -- words that agree are those of such a polynomial, and its value at 0 is what they agree in
    pub agreed_through : (t m : ℕ) (s : A) (xs ys : List A) → Far O gap 𝟘 xs → Distinct O gap xs → length ys ≡ length xs → length xs ≡ m + t
        → descended O gap t xs ys ≡ replicate m s → (cs : List A) × (length cs ≡ t) × (shares O (s ∷ cs) xs ≡ ys)
    unfolding descended
    agreed_through zero m s xs ys Z D l h e =
        ([], refl, constant s xs ∙ ap (λ (k : ℕ). replicate k s) (h ∙ add-zero m) ∙ sym e)
    agreed_through (suc t) m s [] ys Z D l h e = absurd (omega arith)
    agreed_through (suc t) m s (x ∷ xs) [] Z D l h e = absurd (omega arith)
    agreed_through (suc t) m s (x ∷ xs) (y ∷ ys) Z D l h e =
        let r : (cs : List A) × (length cs ≡ t) × (shares O (s ∷ cs) xs ≡ lowered O gap x y xs ys) =
        agreed_through t m s xs (lowered O gap x y xs ys) Z.1 D.1 (length_lowered O gap x y xs ys (suc_inj l)) (omega arith) e in
        let u : A = gap x 𝟘 in
        let hu : x *ₐ u ≡ 𝟙 = own_inverse x Z.0 in
        let qs : List A = scaled O (neg u) r.0 in (
          times O x (sub O y s *ₐ u) qs,
          length_times O x (sub O y s *ₐ u) qs ∙ ap suc (length-map r.0 (O.mul (neg u)) ∙ r.1),
          ap₂ (λ (a : A) (b : List A). a ∷ b) (first x s y u qs hu) (raised x s y u r.0 xs ys hu D.0 (suc_inj l) r.2),
        )
