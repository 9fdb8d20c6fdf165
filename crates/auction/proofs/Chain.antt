-- Rounds one after another, whoever is present: the calls that they are, and what is read off them. Assumes nothing.
use mathlib.Core.Path.{◌≡◌, refl, sym, ap, ap₂, subst, ◌∙◌}
use mathlib.Core.Logic.{⊎_elim}
use mathlib.Core.Bool.{Bool, true, false, cond, ◌&&◌, ◌||◌, true≢false}
use mathlib.Core.List.Memᴰ
use mathlib.Core.List.{List, [], ◌∷◌, ◌++◌, map, map-map, flatten, append-nil, append_assoc, Memᴰ}
use mathlib.Core.Option.{Option, none}
use Prim.Native.Nat.{ℕ, zero, suc, ◌+◌, ◌-◌, ◌≤◌, ◌<◌}
use native.Mathlib.Nat.{zero-add, add-zero, suc-add}
use native.Mathlib.Omega.{arith}
use lib.Dec.{ltb}
use lib.ListN.{length, take, length-map}
use lib.Seq.{take-nil}
use borrow.Author.Tests.{ltb-true, ltb-false, le-leb}
use Rattle.ranges.specs.Lists.{from}
use Rattle.ranges.proofs.Loops.{length_from}
use Rattle.auction.specs.Coins.{flat}
use Rattle.sharing.specs.Scheme.{points}
use Rattle.presence.specs.Presence.{is_present}
use Rattle.search.specs.Search.{Decision}
use Rattle.record.specs.declared.Party.{Party}
use Rattle.record.specs.Record.{ended}
use Rattle.round.specs.declared.Heard.{Heard}
use Rattle.auction.specs.Auction.{Auction}
use Rattle.auction.specs.Coins.{Coins}
use Rattle.auction.specs.Attendance.{Marks, Enough, Attendance}
use Rattle.auction.specs.Call.{Call, say_call, hear_call, whose, of_party, given}
use Rattle.auction.specs.Canonical.{Seat, all_over, say_by, words_by, anything, hear_by, where_so, says_word, say_in, words_for, hear_round, hear_in, after_round, ask_in, from_rounds}
use Rattle.auction.specs.Run.{select, own}
use Rattle.auction.specs.Received.{collect, Saying, round_of, saying_in, Hearing, hearing_in, decided_by, decision_in}
use Rattle.auction.specs.Demands.{all_accepted}
use Rattle.auction.proofs.Closed.{Stage, record_at, seat}
use Rattle.auction.proofs.Calls.{own_append, collect_append, collect_none, read_append, all_accepted_append, map_through, Own, all_accepted_made, own_made, collect_made, with_read}
use Rattle.auction.proofs.Present.{present_words}
use Rattle.auction.proofs.Step.{Hearable, Step, wide}

-- ---- lists

nothing : {A : Type 0} (b : Bool) → ◌≡◌ {A = List A} (cond b [] []) []
nothing true = refl
nothing false = refl

pub no_more : {A : Type 0} (b : Bool) (xs : List A) → xs ++ cond b [] [] ≡ xs
no_more b xs = ap (λ zs. xs ++ zs) (nothing b) ∙ append-nil xs

-- one more of the first m - i
take_more : {A : Type 0} (m i : ℕ) (x : A) (xs : List A) → cond (ltb i m) (x ∷ []) [] ++ take (m - suc i) xs ≡ take (m - i) (x ∷ xs)
take_more {A} m i x xs = split (ltb i m) refl
  where
    split : (b : Bool) → ltb i m ≡ b → cond b (x ∷ []) [] ++ take (m - suc i) xs ≡ take (m - i) (x ∷ xs)
    split true e =
        let d : suc (m - suc i) ≡ m - i = omega (arith, ltb-true i m e) in
        ap (λ (k : ℕ). take k (x ∷ xs)) d
    split false e =
        let h = ltb-false i m e in
        let d : m - suc i ≡ 0 = omega arith in
        let d' : 0 ≡ m - i = omega arith in
        ap (λ (k : ℕ). take k xs) d ∙ ap (λ (k : ℕ). take k (x ∷ xs)) d'

-- x is what stands at i
abbrev pub At : {A : Type 0} → List A → ℕ → A → Type 0
At [] i x = ⊥
At (y ∷ ys) zero x = x ≡ y
At (y ∷ ys) (suc i) x = At ys i x

module _ {A : Type 0} (y x : A) (ys zs : List A) where
  found_at : (b : Bool) → Memᴰ x (cond b (y ∷ []) [] ++ ys) → (Memᴰ x ys → (i : ℕ) × At zs i x) → (i : ℕ) × At (y ∷ zs) i x
  found_at true m f = ⊎_elim (λ e. (0, e)) (λ m'. let r = f m' in (suc r.0, r.1)) (Memᴰ.cases_cons m)
  found_at false m f = let r = f m in (suc r.0, r.1)

  in_first : (b : Bool) → b ≡ true → x ≡ y → Memᴰ x (cond b (y ∷ []) [] ++ ys)
  in_first true h e = Memᴰ.head e
  in_first false h e = absurd (true≢false (sym h))

  in_rest : (b : Bool) → Memᴰ x ys → Memᴰ x (cond b (y ∷ []) [] ++ ys)
  in_rest true m = Memᴰ.tail m
  in_rest false m = m

-- ---- rounds

-- a round: the stage before it, the word of each party, and what the words open to
pub record Turn : Type 0 where
  pub stage : Stage
  pub words : ℕ → List ℕ
  pub opening : Heard

-- the verdict that is heard in it
unfoldable pub decision_of : Turn → Option Decision
decision_of r = decided_by r.stage.search r.opening

-- rounds that lead from one stage to another
pub data Chain (a : Auction) (c : Coins) : Stage → List Turn → Stage → Type 0 where
  done : {σ : Stage} → Chain a c σ [] σ
  round_on : {σ ρ τ : Stage} {w : ℕ → List ℕ} {o : Heard} {rs : List Turn} → Step a c σ ρ w o → Chain a c ρ rs τ
      → Chain a c σ (record { stage = σ; words = w; opening = o } ∷ rs) τ

module _ {a : Auction} {c : Coins} where
  pub chain_append : {σ ρ τ : Stage} {rs rs' : List Turn} → Chain a c σ rs ρ → Chain a c ρ rs' τ → Chain a c σ (rs ++ rs') τ
  chain_append done d = d
  chain_append (round_on s r) d = round_on s (chain_append r d)

-- what party j says in a round
abbrev pub saying_of : Auction → Coins → ℕ → Turn → Saying
saying_of a c j r = record { round = round_of (record_at a c r.stage j); words = r.words j }

module _ (a : Auction) (c : Coins) (marks : Marks) (att : Attendance) where
  -- ---- when the rounds go on

  from_going : (fuel round : ℕ) (ss : List Seat) → all_over ss ≡ false
      → from_rounds marks att (suc fuel) round ss
      ≡ flatten (map (say_in marks att round) ss)
      ++ (flatten (map (hear_in marks att round ss) ss) ++ from_rounds marks att fuel (suc round) (map (after_round marks att round ss) ss))
  unfolding from_rounds
  from_going fuel round ss e = rw (e, from_rounds)

  pub from_ending : (fuel round : ℕ) (ss : List Seat) → all_over ss ≡ true → from_rounds marks att fuel round ss ≡ flatten (map (ask_in marks att round) ss)
  unfolding from_rounds
  from_ending zero round ss e = refl
  from_ending (suc fuel) round ss e = rw (e, from_rounds)

  module _ (σ : Stage) where
    going_on : ((j : ℕ) → ended (record_at a c σ j) ≡ false) → (i m : ℕ) → 1 ≤ m → all_over (map (seat a c σ) (from i m)) ≡ false
    unfolding all_over from seat
    going_on e i zero h = absurd (omega arith)
    going_on e i (suc m) h = rw (e i)

    pub all_done : ((j : ℕ) → ended (record_at a c σ j) ≡ true) → (xs : List ℕ) → all_over (map (seat a c σ) xs) ≡ true
    unfolding all_over seat
    all_done e [] = refl
    all_done e (x ∷ xs) = ap₂ ◌&&◌ (e x) (all_done e xs)

  abbrev pub seats : Stage → List Seat
  seats σ = map (seat a c σ) (points a.n)

  -- the words of a round, as party j hears them
  abbrev pub else_words : (m round j i : ℕ) → List ℕ
  else_words m round j i = map (att.elsewhere j round i) (from 0 m)

  abbrev pub heard_parts : (m round j : ℕ) (w : ℕ → List ℕ) → List (List ℕ)
  heard_parts m round j w = map (λ i. cond (is_present (marks round) i) (w i) (else_words m round j i)) (points a.n)

  abbrev pub heard_words : (m round j : ℕ) (w : ℕ → List ℕ) → List ℕ
  heard_words m round j w = flat (heard_parts m round j w)

  pub else_long : (m round j i : ℕ) → length (else_words m round j i) ≡ m
  else_long m round j i = length-map (from 0 m) (att.elsewhere j round i) ∙ length_from 0 m

  -- each says its word, then each hears
  unfoldable pub turn_calls : ℕ → Turn → List Call
  turn_calls round r =
      flatten (map (λ j. say_in marks att round (seat a c r.stage j)) (points a.n))
      ++ flatten (map (λ j. hear_in marks att round (seats r.stage) (seat a c r.stage j)) (points a.n))

  unfoldable pub calls : ℕ → List Turn → List Call
  calls round [] = []
  calls round (r ∷ rs) = turn_calls round r ++ calls (suc round) rs

  -- what party j hears in a round
  abbrev pub hearing_of : (j round : ℕ) → Turn → Hearing
  hearing_of j round r = record { party = record_at a c r.stage j; messages = heard_words (wide a r.stage) round j r.words; present = marks round }

  unfoldable pub hearings_from : (j round : ℕ) → List Turn → List Hearing
  hearings_from j round [] = []
  hearings_from j round (r ∷ rs) = hearing_of j round r ∷ hearings_from j (suc round) rs

  -- ---- one round

  module _ (many : 1 ≤ a.n) (round : ℕ) (E : Enough a.n (marks round)) {σ τ : Stage} {w : ℕ → List ℕ} {o : Heard} (S : Step a c σ τ w o) where
    abbrev this : Turn
    this = record { stage = σ; words = w; opening = o }

    -- whoever hears, hears the words of those who are present
    words_are : (j : ℕ) → words_for marks att round j (seats σ) ≡ heard_words (wide a σ) round j w
    unfolding words_for seat record_at
    words_are j =
        ap flat
        (map_through (λ s. cond (is_present (marks round) s.party.own) (words_by s) (anything marks att round j s)) (seat a c σ)
        (λ i. cond (is_present (marks round) i) (w i) (else_words (wide a σ) round j i)) a.n
        (λ i i1 im. ap (λ (x : List ℕ). cond (is_present (marks round) i) x (else_words (wide a σ) round j i)) (S.words i i1 im)))

    pub hearable : (j : ℕ) → Hearable a.n (wide a σ) w (heard_words (wide a σ) round j w) (marks round)
    hearable j = present_words a.n (wide a σ) w (λ i. else_words (wide a σ) round j i) (marks round) E S.long (λ i. else_long (wide a σ) round j i)

    hears : (j : ℕ) → Hearable a.n (wide a σ) w (words_for marks att round j (seats σ)) (marks round)
    hears j = rw (words_are j) (hearable j)

    seats_are : map (after_round marks att round (seats σ)) (seats σ) ≡ seats τ
    unfolding after_round
    seats_are =
        map_through (after_round marks att round (seats σ)) (seat a c σ) (seat a c τ) a.n
        (λ j j1 jn. S.next _ (marks round) (hears (seat a c σ j).party.own) j j1 jn)

    turn_rounds : (fuel : ℕ) → from_rounds marks att (suc fuel) round (seats σ) ≡ turn_calls round this ++ from_rounds marks att fuel (suc round) (seats τ)
    unfolding turn_calls
    turn_rounds fuel =
        from_going fuel round (seats σ) (going_on σ S.going 1 a.n many)
        ∙ rw (
          seats_are,
          map-map (say_in marks att round) (seat a c σ) (points a.n),
          map-map (hear_in marks att round (seats σ)) (seat a c σ) (points a.n),
          append_assoc,
        )

    say_own : (i : ℕ) → 1 ≤ i → i ≤ a.n → Own i (say_by (seat a c σ i))
    unfolding say_by seat record_at whose of_party
    say_own i i1 im = record { accepted = S.saying i i1 im; whose = λ j. refl }

    hear_own : (i : ℕ) → 1 ≤ i → i ≤ a.n → Own i (hear_round marks att round (seats σ) (seat a c σ i))
    unfolding hear_round hear_by seat record_at whose of_party
    hear_own i i1 im = record { accepted = S.hearing _ (marks round) (hears i) i i1 im; whose = λ j. refl }

    turn_accepted : all_accepted (turn_calls round this) ≡ true
    unfolding turn_calls say_in hear_in seat record_at
    turn_accepted =
        all_accepted_append _ _ (all_accepted_made (says_word marks att round) (λ j. say_by (seat a c σ j)) a.n say_own)
        (all_accepted_made (λ j. ltb round (att.hears j)) (λ j. hear_round marks att round (seats σ) (seat a c σ j)) a.n hear_own)

    module _ (j : ℕ) (j1 : 1 ≤ j) (jn : j ≤ a.n) where
      -- whether it says its word, and whether it hears
      abbrev speaking : Bool
      speaking = says_word marks att round j

      abbrev listening : Bool
      listening = ltb round (att.hears j)

      own_turn : own j (turn_calls round this)
          ≡ where_so speaking (given (say_by (seat a c σ j))) ++ where_so listening (hear_round marks att round (seats σ) (seat a c σ j))
      unfolding turn_calls say_in hear_in seat record_at say_by hear_round hear_by given
      own_turn =
          own_append j _ _
          ∙ ap₂ ◌++◌ (own_made j a.n (says_word marks att round) (λ i. say_by (seat a c σ i)) j1 jn say_own)
          (own_made j a.n (λ i. ltb round (att.hears i)) (λ i. hear_round marks att round (seats σ) (seat a c σ i)) j1 jn hear_own)

      reads_turn : {B : Type 0} (f : Call → Option B) → collect f (own j (turn_calls round this))
          ≡ cond speaking (collect f (given (say_by (seat a c σ j)) ∷ [])) []
          ++ cond listening (collect f (hear_round marks att round (seats σ) (seat a c σ j) ∷ [])) []
      reads_turn f =
          ap (collect f) own_turn ∙ collect_append f _ _ ∙ ap₂ ◌++◌ (collect_made f speaking _) (collect_made f listening _)

      pub turn_hearings : collect hearing_in (own j (turn_calls round this)) ≡ cond listening (hearing_of j round this ∷ []) []
      unfolding collect hearing_in say_by given hear_round hear_by seat record_at
      turn_hearings =
          reads_turn hearing_in
          ∙ ap₂ ◌++◌ (nothing speaking) (ap (λ (ms : List ℕ). cond listening (record { party = record_at a c σ j; messages = ms; present = marks round } ∷ []) []) (words_are j))

      pub turn_sayings : collect saying_in (own j (turn_calls round this)) ≡ cond speaking (saying_of a c j this ∷ []) []
      unfolding collect saying_in say_by given hear_round hear_by seat words_by
      turn_sayings =
          reads_turn saying_in ∙ no_more listening _
          ∙ ap (λ (x : List ℕ). cond speaking (record { round = round_of (record_at a c σ j); words = x } ∷ []) []) (S.words j j1 jn)

      -- a reader that passes over sayings and hearings
      turn_none : {B : Type 0} (f : Call → Option B) → ((q : Party) (t s d : List ℕ) → f (say_call q t s d) ≡ none)
          → ((q : Party) (t s m p : List ℕ) → f (hear_call q t s m p) ≡ none) → collect f (own j (turn_calls round this)) ≡ []
      unfolding collect say_by given hear_round hear_by
      turn_none {B} f no_say no_hear =
          reads_turn f
          ∙ ap₂ (λ (xs ys : List B). cond speaking xs [] ++ cond listening ys []) (collect_none f _ [] (no_say _ _ _ _)) (collect_none f _ [] (no_hear _ _ _ _ _))
          ∙ ap₂ ◌++◌ (nothing speaking) (nothing listening)

  -- ---- a chain of rounds

  module _ (many : 1 ≤ a.n) where
    -- t + 1 are present in each of these rounds
    abbrev pub Enoughs : (round m : ℕ) → Type 0
    Enoughs round m = (i : ℕ) → round ≤ i → i < round + m → Enough a.n (marks i)

    first_of : (round m : ℕ) → Enoughs round (suc m) → Enough a.n (marks round)
    first_of round m E = E round (omega arith) (omega arith)

    rest_of : (round m : ℕ) → Enoughs round (suc m) → Enoughs (suc round) m
    rest_of round m E i l k = E i (omega arith) (omega arith)

    pub chain_rounds : {σ τ : Stage} {rs : List Turn} → Chain a c σ rs τ → (fuel round : ℕ) → Enoughs round (length rs)
        → from_rounds marks att (length rs + fuel) round (seats σ) ≡ calls round rs ++ from_rounds marks att fuel (round + length rs) (seats τ)
    unfolding calls
    chain_rounds {σ} done fuel round E = ap₂ (λ (f r : ℕ). from_rounds marks att f r (seats σ)) (zero-add fuel) (sym (add-zero round))
    chain_rounds {τ} (round_on {σ} {w} {o} {rs} s r) fuel round E =
        let this : Turn = record { stage = σ; words = w; opening = o } in
        let later : suc round + length rs ≡ round + suc (length rs) = omega arith in
        ap (λ (f : ℕ). from_rounds marks att f round (seats σ)) (suc-add (length rs) fuel)
        ∙ turn_rounds many round (first_of round (length rs) E) s (length rs + fuel)
        ∙ ap (λ (l : List Call). turn_calls round this ++ l) (chain_rounds r fuel (suc round) (rest_of round (length rs) E))
        ∙ sym (append_assoc (turn_calls round this) (calls (suc round) rs) _)
        ∙ ap (λ (x : ℕ). (turn_calls round this ++ calls (suc round) rs) ++ from_rounds marks att fuel x (seats τ)) later

    pub chain_accepted : {σ τ : Stage} {rs : List Turn} → Chain a c σ rs τ → (round : ℕ) → Enoughs round (length rs)
        → all_accepted (calls round rs) ≡ true
    unfolding calls all_accepted
    chain_accepted done round E = refl
    chain_accepted (round_on {σ} {w} {o} {rs} s r) round E =
        all_accepted_append (turn_calls round (record { stage = σ; words = w; opening = o })) (calls (suc round) rs) (turn_accepted many round (first_of round (length rs) E) s)
        (chain_accepted r (suc round) (rest_of round (length rs) E))

    module _ (j : ℕ) (j1 : 1 ≤ j) (jn : j ≤ a.n) where
      -- what is read off a round and those after it
      reads : {B : Type 0} (f : Call → Option B) (round : ℕ) (r : Turn) (rs : List Turn) (xs ys : List B)
          → collect f (own j (turn_calls round r)) ≡ xs → collect f (own j (calls (suc round) rs)) ≡ ys → collect f (own j (calls round (r ∷ rs))) ≡ xs ++ ys
      unfolding calls
      reads f round r rs xs ys e g = read_append f j (turn_calls round r) (calls (suc round) rs) ∙ ap₂ ◌++◌ e g

      -- it hears the first ones, as many as it does
      pub chain_hearings : {σ τ : Stage} {rs : List Turn} → Chain a c σ rs τ → (round : ℕ) → Enoughs round (length rs)
          → collect hearing_in (own j (calls round rs)) ≡ take (att.hears j - round) (hearings_from j round rs)
      unfolding calls collect select hearings_from
      chain_hearings done round E = sym (take-nil (att.hears j - round))
      chain_hearings (round_on {rs} s r) round E =
          reads hearing_in round _ rs _ (take (att.hears j - suc round) (hearings_from j (suc round) rs))
          (turn_hearings many round (first_of round (length rs) E) s j j1 jn) (chain_hearings r (suc round) (rest_of round (length rs) E))
          ∙ take_more (att.hears j) round _ (hearings_from j (suc round) rs)

      module _ {B : Type 0} (f : Call → Option B) (no_say : (q : Party) (t s d : List ℕ) → f (say_call q t s d) ≡ none)
          (no_hear : (q : Party) (t s m p : List ℕ) → f (hear_call q t s m p) ≡ none) where
        pub chain_none : {σ τ : Stage} {rs : List Turn} → Chain a c σ rs τ → (round : ℕ) → Enoughs round (length rs)
            → collect f (own j (calls round rs)) ≡ []
        unfolding calls collect select
        chain_none done round E = refl
        chain_none (round_on {rs} s r) round E =
            reads f round _ rs [] [] (turn_none many round (first_of round (length rs) E) s j j1 jn f no_say no_hear)
            (chain_none r (suc round) (rest_of round (length rs) E))

      -- the verdicts are those of the rounds that it hears
      decided_as : {σ τ : Stage} {w : ℕ → List ℕ} {o : Heard} → Step a c σ τ w o → (round : ℕ) → Enough a.n (marks round)
          → decision_in (hearing_of j round (record { stage = σ; words = w; opening = o })) ≡ decision_of (record { stage = σ; words = w; opening = o })
      unfolding decision_in decision_of record_at
      decided_as {σ} {w} s round E =
          ap (decided_by σ.search) (s.opens (heard_words (wide a σ) round j w) (marks round) (hearable many round E s j) j j1 jn)

      pub chain_decisions : {σ τ : Stage} {rs : List Turn} → Chain a c σ rs τ → (round m : ℕ) → Enoughs round (length rs)
          → collect decision_in (take m (hearings_from j round rs)) ≡ collect decision_of (take m rs)
      unfolding collect hearings_from
      chain_decisions r round zero E = refl
      chain_decisions done round (suc m) E = refl
      chain_decisions (round_on {rs} s r) round (suc m) E =
          ap₂ with_read (decided_as s round (first_of round (length rs) E)) (chain_decisions r (suc round) m (rest_of round (length rs) E))

      -- what it says, it says in one of the rounds
      pub chain_sayings : {σ τ : Stage} {rs : List Turn} → Chain a c σ rs τ → (round : ℕ) → Enoughs round (length rs)
          → (x : Saying) → Memᴰ x (collect saying_in (own j (calls round rs))) → (i : ℕ) × At (map (saying_of a c j) rs) i x
      unfolding calls collect select
      chain_sayings done round E x m = absurd (Memᴰ.not-nil m)
      chain_sayings (round_on {σ} {w} {o} {rs} s r) round E x m =
          let this : Turn = record { stage = σ; words = w; opening = o } in
          found_at (saying_of a c j this) x _ (map (saying_of a c j) rs) (says_word marks att round j)
          (subst (Memᴰ x) (reads saying_in round this rs _ _ (turn_sayings many round (first_of round (length rs) E) s j j1 jn) refl) m)
          (λ m'. chain_sayings r (suc round) (rest_of round (length rs) E) x m')

      -- and it says its word where it is present
      pub chain_says : {σ τ : Stage} {rs : List Turn} → Chain a c σ rs τ → (round : ℕ) → Enoughs round (length rs)
          → (i : ℕ) (x : Saying) → At (map (saying_of a c j) rs) i x → is_present (marks (round + i)) j ≡ true → round + i ≤ att.hears j
          → Memᴰ x (collect saying_in (own j (calls round rs)))
      unfolding calls collect select
      chain_says done round E i x h p l = absurd h
      chain_says (round_on {σ} {w} {o} {rs} s r) round E zero x h p l =
          let this : Turn = record { stage = σ; words = w; opening = o } in
          let here : is_present (marks round) j ≡ true = ap (λ (k : ℕ). is_present (marks k) j) (sym (add-zero round)) ∙ p in
          subst (Memᴰ x) (sym (reads saying_in round this rs _ _ (turn_sayings many round (first_of round (length rs) E) s j j1 jn) refl))
          (in_first (saying_of a c j this) x _ (map (saying_of a c j) rs) (says_word marks att round j)
          (ap₂ ◌&&◌ (le-leb round (att.hears j) (omega arith)) (ap (λ (b : Bool). b || att.speaks j round) here)) h)
      chain_says (round_on {σ} {w} {o} {rs} s r) round E (suc i) x h p l =
          let this : Turn = record { stage = σ; words = w; opening = o } in
          let k : round + suc i ≡ suc round + i = omega arith in
          subst (Memᴰ x) (sym (reads saying_in round this rs _ _ (turn_sayings many round (first_of round (length rs) E) s j j1 jn) refl))
          (in_rest (saying_of a c j this) x _ (map (saying_of a c j) rs) (says_word marks att round j)
          (chain_says r (suc round) (rest_of round (length rs) E) i x h (ap (λ (z : ℕ). is_present (marks z) j) (sym k) ∙ p) (omega arith)))
