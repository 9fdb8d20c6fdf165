-- Entries, bid after bid. Assumes nothing.
use mathlib.Core.Path.{◌≡◌, refl, sym, ap, ◌∙◌}
use mathlib.Core.List.{List, [], ◌∷◌, ◌++◌, append_assoc, append-nil}
use Prim.Native.Nat.{ℕ, suc, ◌+◌, ◌-◌, ◌*◌, ◌≤◌, ◌<◌}
use native.Mathlib.Nat.{sub-zero}
use native.Mathlib.Omega.{arith}
use lib.ListN.{length, take, get_or}
use lib.Seq.{take_all}
use borrow.Rule.Slice.PartMut.{put_mid}
use Rattle.std.proofs.lemmas.Slice.{take-put_mid}
use Rattle.lines.specs.Lines.{numbers, past}
use Rattle.sections.specs.Sections.{tables}
use Rattle.entering.specs.Entries.{entries}

module _ (got : ℕ → ℕ) (k i bids : ℕ) (bytes : List ℕ) where
  -- so many bids are entered, and the others are still to be read
  abbrev pub Entered : (into : List ℕ) (done : ℕ) (rest : List ℕ) → Type 0
  Entered into done rest = take (4 * done) into ++ entries got k i (tables k (bids - done) rest) ≡ entries got k i (tables k bids bytes)

  pub entered_none : (into : List ℕ) → Entered into 0 bytes
  entered_none into = ap (λ (m : ℕ). entries got k i (tables k m bytes)) (sub-zero bids)

  next_entries : (rest : List ℕ) (left : ℕ) → entries got k i (tables k (suc left) rest)
      ≡ (get_or (numbers (2 * k) rest) (i - 1) 0 ∷ got (get_or (numbers (2 * k) rest) (i - 1) 0) ∷ get_or (numbers (2 * k) rest) (k + i - 1) 0
      ∷ get_or (numbers (2 * k) rest) (k + i - 1) 0 ∷ []) ++ entries got k i (tables k left (past (2 * k) rest))
  unfolding tables entries
  next_entries rest left = refl

  -- four entries were written
  pub entered_more : (into rest later put : List ℕ) (done size a b c : ℕ) → done < bids → 4 * bids ≤ length into → Entered into done rest
      → later ≡ past (2 * k) rest → put ≡ a ∷ b ∷ c ∷ c ∷ [] → a ≡ get_or (numbers (2 * k) rest) (i - 1) 0 → b ≡ got a
      → c ≡ get_or (numbers (2 * k) rest) (k + i - 1) 0 → Entered (put_mid (4 * done) size into put) (done + 1) later
  entered_more into rest later put done size a b c h room E el ep ea eb ec =
      let left = bids - (done + 1) in
      let one : suc left ≡ bids - done = omega arith in
      let same : (a ∷ b ∷ c ∷ c ∷ []) ++ entries got k i (tables k left later) ≡ entries got k i (tables k (bids - done) rest) =
      rw (el, eb, ec, ea) (sym (next_entries rest left) ∙ ap (λ (m : ℕ). entries got k i (tables k m rest)) one) in
      ap (λ (x : List ℕ). x ++ entries got k i (tables k left later))
      (take-put_mid (4 * done) size into put (4 * (done + 1)) (omega (arith, ap length ep)) (omega arith))
      ∙ append_assoc (take (4 * done) into) put (entries got k i (tables k left later))
      ∙ ap (λ (x : List ℕ). take (4 * done) into ++ x) (ap (λ (x : List ℕ). x ++ entries got k i (tables k left later)) ep ∙ same)
      ∙ E

  pub entered_all : (into rest : List ℕ) (done : ℕ) → bids ≤ done → length into ≤ 4 * bids → Entered into done rest
      → into ≡ entries got k i (tables k bids bytes)
  unfolding tables entries
  entered_all into rest done h all E =
      let none : bids - done ≡ 0 = omega arith in
      sym (take_all (4 * done) into (omega arith))
      ∙ sym (append-nil (take (4 * done) into))
      ∙ ap (λ (m : ℕ). take (4 * done) into ++ entries got k i (tables k m rest)) (sym none)
      ∙ E
