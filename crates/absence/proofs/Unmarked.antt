-- Unmarked words change nothing. Assumes nothing.
use mathlib.Core.Path.{◌≡◌, refl, sym, ap, ap₂, ◌∙◌}
use mathlib.Core.Bool.{Bool, true, false, cond, not, ◌&&◌}
use mathlib.Core.List.{List, [], ◌∷◌}
use Prim.Native.Nat.{ℕ, zero, suc, ◌+◌, ◌-◌, ◌*◌, ◌<◌, ◌≤◌}
use native.Mathlib.Omega.{arith}
use Prim.Native.Nat.{min}
use lib.Dec.{eqb}
use lib.ListN.{length, take, drop, get_or, length-take, length-drop}
use lib.Seq.{get_or-take, get_or-drop, ext_get_or}
use Rattle.ranges.specs.Lists.{from, every, same}
use Rattle.ranges.proofs.Loops.{same_from}
use Rattle.presence.specs.Presence.{of_present, is_present}
use Rattle.round.specs.declared.Heard.{Heard}
use Rattle.round.specs.declared.Heard.TheVariants.{Factors, Unopened}
use Rattle.round.specs.Round.{heard, unopened}
use Rattle.round.proofs.Opened.{heard_unmarked}
use Rattle.record.specs.declared.Party.{Party}
use Rattle.ways.specs.Way.{tree, width}
use Rattle.comparison.specs.Pairs.{Sides}
use Rattle.level.specs.Level.{level_kept}
use Rattle.level_round.specs.Columns.{column, column_heard, heard_sides, level_opened, level_sides}
use Rattle.level_round.proofs.Laws.{column_length, column_at}
use Rattle.message.specs.Message.{in_level, message}
use Rattle.saying.specs.Say.{current}
use Rattle.message.proofs.Messages.{level_wide, single_wide}
use Rattle.stepping.specs.After.{role, after, after_level}
use Rattle.listening.specs.Listen.{width_of, own_words, opening}
use Rattle.listening.proofs.Laws.{level_opening, one_opening}
use Rattle.heard_round.specs.Next.{heard_next}
use Rattle.hearing.specs.Hear.{hear_judgement}
use Rattle.absence.specs.Unmarked.{UnmarkedUnread}
use Rattle.heard_round.proofs.Left.{level_next, one_next}

-- words that are the same where there is a mark
chosen_alike : (present xs ys : List ℕ) → length xs ≡ length ys → ((i : ℕ) → i < length xs → eqb 1 (get_or present i 0) ≡ true → get_or xs i 0 ≡ get_or ys i 0)
    → of_present present xs ≡ of_present present ys
chosen_alike [] xs ys l h = refl
chosen_alike (m ∷ present) [] [] l h = refl
chosen_alike (m ∷ present) [] (y ∷ ys) l h = absurd (omega (arith, l))
chosen_alike (m ∷ present) (x ∷ xs) [] l h = absurd (omega (arith, l))
chosen_alike (m ∷ present) (x ∷ xs) (y ∷ ys) l h = split (eqb 1 m) refl (chosen_alike present xs ys (omega (arith, l)) (λ i k e. h (suc i) (omega arith) e))
  where
    split : (b : Bool) → eqb 1 m ≡ b → of_present present xs ≡ of_present present ys → of_present (m ∷ present) (x ∷ xs) ≡ of_present (m ∷ present) (y ∷ ys)
    split true e r = rw e (ap₂ (λ (z : ℕ) (zs : List ℕ). z ∷ zs) (h 0 (omega arith) e) r)
    split false e r = rw e r

every_alike : (f g : ℕ → Bool) (a m : ℕ) → ((i : ℕ) → a ≤ i → i < a + m → f i ≡ g i) → every f (from a m) ≡ every g (from a m)
unfolding every from
every_alike f g a zero h = refl
every_alike f g a (suc m) h = ap₂ ◌&&◌ (h a (omega arith) (omega arith)) (every_alike f g (suc a) m (λ i x y. h i (omega arith) (omega arith)))

same_cut : (w at : ℕ) (xs ys : List ℕ) → length xs ≡ length ys → length (take w (drop at xs)) ≡ length (take w (drop at ys))
same_cut w at xs ys l =
    length-take w (drop at xs) ∙ ap (min w) (length-drop at xs ∙ ap (λ (k : ℕ). k - at) l ∙ sym (length-drop at ys)) ∙ sym (length-take w (drop at ys))

below_cut : (w : ℕ) (xs : List ℕ) (i : ℕ) → i < length (take w xs) → i < w
below_cut zero xs i h = absurd (omega arith)
below_cut (suc w) [] i h = absurd (omega arith)
below_cut (suc w) (x ∷ xs) zero h = omega arith
below_cut (suc w) (x ∷ xs) (suc i) h = let r = below_cut w xs i (omega arith) in omega arith

module _ (q : Party) (totals sheets messages messages' present : List ℕ) (l : length messages ≡ length messages')
    (alike : (i j : ℕ) → is_present present (i + 1) ≡ true → j < width_of q → get_or messages (j + i * width_of q) 0 ≡ get_or messages' (j + i * width_of q) 0) where
  marked_at : (i : ℕ) → eqb 1 (get_or present i 0) ≡ true → is_present present (i + 1) ≡ true
  marked_at i e = let z : i + 1 - 1 ≡ i = omega arith in ap (λ (k : ℕ). eqb 1 (get_or present k 0)) z ∙ e

  -- a level's columns
  column_same : in_level q ≡ true → (j : ℕ) → j < width tree q.round
      → column_heard q.n q.round present messages j ≡ column_heard q.n q.round present messages' j
  unfolding column_heard
  column_same e j h =
      let w = level_wide q e in
      let n = q.n in
      let v = width tree q.round in
      heard_unmarked n q.round present (column n v j messages) (column n v j messages') (column_length n v j messages ∙ sym (column_length n v j messages'))
      (chosen_alike present (column n v j messages) (column n v j messages') (column_length n v j messages ∙ sym (column_length n v j messages'))
      (λ i k m.
      let i_lt : i < n = omega (arith, column_length n v j messages) in
      column_at n v j messages i i_lt
      ∙ ap (λ (u : ℕ). get_or messages (j + i * u) 0) (sym w) ∙ alike i j (marked_at i m) (omega (arith, w)) ∙ ap (λ (u : ℕ). get_or messages' (j + i * u) 0) w
      ∙ sym (column_at n v j messages' i i_lt)))

  opened_same : in_level q ≡ true → level_opened q.n q.round present messages ≡ level_opened q.n q.round present messages'
  unfolding level_opened
  opened_same e =
      every_alike (λ j. not (unopened (column_heard q.n q.round present messages j))) (λ j. not (unopened (column_heard q.n q.round present messages' j)))
      0 (width tree q.round) (λ j a b. ap (λ (h : Heard). not (unopened h)) (column_same e j (omega arith)))

  sides_same : in_level q ≡ true → level_sides q.n q.round present messages ≡ level_sides q.n q.round present messages'
  unfolding level_sides
  sides_same e =
      same_from (λ j. heard_sides (column_heard q.n q.round present messages j)) (λ j. heard_sides (column_heard q.n q.round present messages' j))
      0 (width tree q.round) (λ j a b. ap heard_sides (column_same e j (omega arith)))

  -- a single word
  single_same : in_level q ≡ false → heard q.n (role q) present messages ≡ heard q.n (role q) present messages'
  single_same e =
      let w = single_wide q e in
      heard_unmarked q.n (role q) present messages messages' l
      (chosen_alike present messages messages' l
      (λ i k m.
      let z : i ≡ 0 + i * width_of q = rw w (omega arith) in
      ap (λ (k : ℕ). get_or messages k 0) z ∙ alike i 0 (marked_at i m) (omega (arith, w)) ∙ ap (λ (k : ℕ). get_or messages' k 0) (sym z)))

  opening_same : opening q present messages ≡ opening q present messages'
  opening_same = split (in_level q) refl
    where
      split : (b : Bool) → in_level q ≡ b → opening q present messages ≡ opening q present messages'
      split true e =
          level_opening q messages present e ∙ ap (λ (b : Bool). cond b (Factors 0 0) Unopened) (opened_same e) ∙ sym (level_opening q messages' present e)
      split false e = one_opening q messages present e ∙ single_same e ∙ sym (one_opening q messages' present e)

  next_same : (sheet : List ℕ) → heard_next q sheet messages present ≡ heard_next q sheet messages' present
  next_same sheet = split (in_level q) refl
    where
      split : (b : Bool) → in_level q ≡ b → heard_next q sheet messages present ≡ heard_next q sheet messages' present
      split true e =
          level_next q sheet messages present e
          ∙ ap (λ (os : List (Sides ℕ)). after_level q (level_kept q.round q.sum q.pairs.words sheet os)) (sides_same e)
          ∙ sym (level_next q sheet messages' present e)
      split false e = one_next q sheet messages present e ∙ ap (after q sheet) (single_same e) ∙ sym (one_next q sheet messages' present e)

  own_same : is_present present q.own ≡ true → own_words q messages ≡ own_words q messages'
  own_same m =
      let w = width_of q in
      let at = (q.own - 1) * w in
      ext_get_or 0 (take w (drop at messages)) (take w (drop at messages')) (same_cut w at messages messages' l)
      (λ i h.
      let i_lt : i < w = below_cut w (drop at messages) i h in
      let there : (xs : List ℕ) → get_or (take w (drop at xs)) i 0 ≡ get_or xs (i + at) 0 =
      λ xs. get_or-take w (drop at xs) i 0 i_lt ∙ get_or-drop at xs i 0 ∙ ap (λ (k : ℕ). get_or xs k 0) (omega arith) in
      there messages ∙ alike (q.own - 1) i (marked_at (q.own - 1) m) i_lt ∙ sym (there messages'))

pub unmarked_unread : UnmarkedUnread
unfolding hear_judgement
unmarked_unread q totals sheets messages messages' present l alike =
    rw (
      sym l,
      sym (opening_same q totals sheets messages messages' present l alike),
      sym (next_same q totals sheets messages messages' present l alike (current q sheets)),
      compared (is_present present q.own) refl,
    )
  where
    compared : (here : Bool) → is_present present q.own ≡ here
        → here && not (same (own_words q messages') (message q totals (current q sheets))) ≡ here && not (same (own_words q messages) (message q totals (current q sheets)))
    compared true m = ap (λ (ws : List ℕ). not (same ws (message q totals (current q sheets)))) (sym (own_same q totals sheets messages messages' present l alike m))
    compared false m = refl
