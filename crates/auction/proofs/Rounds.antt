-- All rounds of an auction, from the first word to the answer: every call is accepted, and what is read off them. Assumes nothing.
use Rattle.std.specs.Prelude.{Ok}
use mathlib.Core.Path.{◌≡◌, refl, sym, ap, ap₂, subst, ◌∙◌}
use mathlib.Core.Bool.{Bool, true, cond}
use mathlib.Core.List.{List, [], ◌∷◌, ◌++◌, map, map-map, flatten, Memᴰ}
use mathlib.Core.Option.{Option}
use Prim.Native.Nat.{ℕ, zero, suc, ◌+◌, ◌-◌, ◌/◌, ◌≤◌, ◌<◌, min}
use native.Mathlib.Nat.{zero-add}
use native.Mathlib.Omega.{arith}
use lib.ListN.{length, take, get_or, length-take}
use Rattle.ways.specs.Way.{way_of, last_round}
use Rattle.refusal.specs.Judging.{judged}
use Rattle.ranges.proofs.Loops.{map_from, map_take}
use Rattle.sharing.specs.Scheme.{points}
use Rattle.presence.specs.Presence.{marked, choose, is_present}
use Rattle.search.specs.declared.searches.Search.{Search}
use Rattle.search.specs.Searches.{first_search, price}
use Rattle.comparison.specs.Probe.{Each}
use Rattle.record.specs.declared.Party.{Party}
use Rattle.record.specs.Record.{sound, ended}
use Rattle.session.specs.Answer.{the_answer, answer_judgement, answered, answer_reply}
use Rattle.auction.specs.Auction.{Auction, IsAuction, price_answer, rounds}
use Rattle.auction.specs.Coins.{Coins, InRange}
use Rattle.auction.specs.Attendance.{Marks, EnoughPresent, Attendance}
use Rattle.auction.specs.Call.{Call, accepted, is_accepted, judgement, whose, of_party, given}
use Rattle.auction.specs.Canonical.{enough_rounds, ask, where_so, asks_then, ask_in, from_rounds}
use Rattle.auction.specs.Run.{own}
use Rattle.auction.specs.Received.{collect, bid_in, Saying, saying_in, round_of, Hearing, hearing_in, asking_in, decision_in, words_heard}
use Rattle.auction.specs.Demands.{all_accepted}
use Rattle.auction.proofs.Closed.{Stage, fresh_stage, record_at, seat, probes, decision}
use Rattle.auction.proofs.Calls.{read_append, all_accepted_append, Own, all_accepted_made, own_made, collect_made}
use Rattle.auction.proofs.Setup.{round_calls}
use Rattle.round.specs.declared.Heard.{Heard}
use Rattle.auction.specs.Attendance.{Enough}
use Rattle.auction.proofs.Step.{sound_at, Step}
use Rattle.auction.proofs.Chain.{no_more, Turn, Chain, done, round_on, hearable, hearing_of, At, from_ending, all_done, seats, calls, saying_of, hearings_from, Enoughs, chain_rounds, chain_accepted, chain_hearings, chain_none, chain_decisions, chain_sayings, chain_says}
use Rattle.auction.proofs.Search.{Counted, probes_counted, price_found}
use Rattle.auction.proofs.Whole.{all_words, all_turns, end, end_search, whole_spoken, all_chain, end_sane, end_over, counted, rounds_are, rounds_few, all_decide, said_are}

-- ---- words, round by round

-- of the words of each round those of who is present
unfoldable pub present_of : Marks → (round : ℕ) → List (List (List ℕ)) → List (List (List ℕ))
present_of marks round [] = []
present_of marks round (ws ∷ wss) = choose (marked (marks round)) ws ∷ present_of marks (suc round) wss

-- ---- asking for the answer

ask_accepted : (q : Party) → sound q ≡ true → ended q ≡ true → answer_judgement q ≡ Ok tt
unfolding answer_judgement judged
ask_accepted q s o = rw (s, o)

ask_cleared : (q : Party) → answer_judgement q ≡ Ok tt → answer_reply q ≡ the_answer (price q.search) q.search.probes
unfolding answered
ask_cleared q e = rw e

-- ---- words said in a round

module _ (a : Auction) (c : Coins) (j : ℕ) where
  -- what stands at i among the sayings is of the round i, and its word is the party's there
  said_round : (rs : List Turn) (k i : ℕ) (x : Saying) → Counted a.last k rs → At (map (saying_of a c j) rs) i x → x.round ≡ k + i
  unfolding record_at round_of
  said_round [] k i x C h = absurd h
  said_round (r ∷ rs) k zero x C h = ap (λ (s : Saying). s.round) h ∙ C.0 ∙ omega arith
  said_round (r ∷ rs) k (suc i) x C h = said_round rs (suc k) i x C.1 h ∙ omega arith

  said_word : (rs : List Turn) (i : ℕ) (x : Saying) → 1 ≤ j → j ≤ a.n → At (map (saying_of a c j) rs) i x
      → x.words ≡ get_or (get_or (map (all_words a) rs) i []) (j - 1) []
  said_word [] i x j1 jn h = absurd h
  said_word (r ∷ rs) zero x j1 jn h =
      let at : 1 + (j - 1) ≡ j = omega arith in
      ap (λ (s : Saying). s.words) h ∙ sym (map_from r.words [] 1 a.n (j - 1) (omega arith) ∙ ap r.words at)
  said_word (r ∷ rs) (suc i) x j1 jn h = said_word rs i x j1 jn h

  some_saying : (rs : List Turn) (i : ℕ) → i < length rs → (x : Saying) × At (map (saying_of a c j) rs) i x
  some_saying [] i h = absurd (omega arith)
  some_saying (r ∷ rs) zero h = (saying_of a c j r, refl)
  some_saying (r ∷ rs) (suc i) h = some_saying rs i (omega arith)

  said_below : (rs : List Turn) (i : ℕ) (x : Saying) → At (map (saying_of a c j) rs) i x → i < length rs
  said_below [] i x h = absurd h
  said_below (r ∷ rs) zero x h = omega arith
  said_below (r ∷ rs) (suc i) x h = omega (arith, said_below rs i x h)

-- party j's word in the round i, and a saying of it
abbrev pub spoken_words : Auction → Coins → (i j : ℕ) → List ℕ
spoken_words a c i j = get_or (get_or (whole_spoken a c) i []) (j - 1) []

pub record Says (a : Auction) (c : Coins) (i j : ℕ) (x : Saying) : Type 0 where
  pub in_round : x.round ≡ i
  pub below : i < rounds a
  pub words : x.words ≡ spoken_words a c i j

module _ (a : Auction) (c : Coins) (A : IsAuction a) (C : InRange a c) where
  abbrev rs : List Turn
  rs = all_turns a c

  -- the stage at the end
  abbrev τ : Stage
  τ = end a c

  L : Chain a c (fresh_stage (first_search a.k)) rs τ
  L = all_chain a c A C

  many : 1 ≤ a.n
  many = omega (arith, A.n_least)

  module _ (j : ℕ) (j1 : 1 ≤ j) (jn : j ≤ a.n) where
    end_sound : sound (record_at a c τ j) ≡ true
    end_sound = sound_at a c A τ (end_sane a c A C) j j1 jn

    end_judged : answer_judgement (record_at a c τ j) ≡ Ok tt
    end_judged = ask_accepted (record_at a c τ j) end_sound (end_over a c A C j)

    asked : accepted (ask (seat a c τ j)) ≡ true
    unfolding ask seat judgement is_accepted
    asked = rw end_judged

    pub end_answer : answer_reply (record_at a c τ j) ≡ the_answer (price_answer a) (length (probes a c))
    unfolding record_at
    end_answer =
        ask_cleared (record_at a c τ j) end_judged
        ∙ ap₂ the_answer (ap price (end_search a c) ∙ price_found a c A C) (ap (λ (s : Search). s.probes) (end_search a c) ∙ probes_counted a c A C)

    ask_own : Own j (ask (seat a c τ j))
    unfolding ask seat record_at whose of_party
    ask_own = record { accepted = asked; whose = λ i. refl }

    -- what stands at i among the sayings
    says_at : (i : ℕ) (x : Saying) → At (map (saying_of a c j) rs) i x → Says a c i j x
    says_at i x h =
        record {
          in_round = said_round a c j rs 0 i x (counted a c A C) h ∙ zero-add i;
          below = omega (arith, said_below a c j rs i x h, rounds_are a c A C);
          words = said_word a c j rs i x j1 jn h ∙ ap (λ (wss : List (List (List ℕ))). get_or (get_or wss i []) (j - 1) []) (said_are a c A C);
        }

  module _ (marks : Marks) (M : EnoughPresent a marks) (att : Attendance) where
    enoughs : Enoughs a c marks att many 0 (length rs)
    enoughs i l h = M i (omega (arith, rounds_are a c A C))

    -- ---- the calls

    -- who has heard all the rounds is asked, if it asks
    abbrev is_over : ℕ → Bool
    is_over j = asks_then marks att (rounds a) j

    asks : List Call
    asks = flatten (map (λ j. where_so (is_over j) (ask (seat a c τ j))) (points a.n))

    -- the rounds, then the askings
    calls_are : round_calls a c marks att ≡ calls a c marks att 0 rs ++ asks
    unfolding asks ask_in seat record_at
    calls_are =
        let left : enough_rounds a ≡ length rs + (enough_rounds a - length rs) = omega (arith, rounds_few a c A C) in
        ap (λ (x : ℕ). from_rounds marks att x 0 (seats a c marks att (fresh_stage (first_search a.k)))) left
        ∙ chain_rounds a c marks att many L (enough_rounds a - length rs) 0 enoughs
        ∙ ap (λ (l : List Call). calls a c marks att 0 rs ++ l)
        (from_ending a c marks att (enough_rounds a - length rs) (0 + length rs) (seats a c marks att τ) (all_done a c marks att τ (end_over a c A C) (points a.n))
        ∙ ap flatten (map-map (ask_in marks att (0 + length rs)) (seat a c τ) (points a.n))
        ∙ ap (λ (k : ℕ). flatten (map (λ j. where_so (asks_then marks att k j) (ask (seat a c τ j))) (points a.n))) (zero-add (length rs) ∙ rounds_are a c A C))

    pub rounds_accepted : all_accepted (round_calls a c marks att) ≡ true
    unfolding asks
    rounds_accepted =
        ap all_accepted calls_are
        ∙ all_accepted_append (calls a c marks att 0 rs) asks (chain_accepted a c marks att many L 0 enoughs)
        (all_accepted_made is_over (λ j. ask (seat a c τ j)) a.n ask_own)

    module _ (j : ℕ) (j1 : 1 ≤ j) (jn : j ≤ a.n) where
      own_asks : own j asks ≡ where_so (is_over j) (ask (seat a c τ j))
      unfolding asks ask given
      own_asks = own_made j a.n is_over (λ j. ask (seat a c τ j)) j1 jn ask_own

      reads : {B : Type 0} (f : Call → Option B) (xs : List B) → collect f (own j (calls a c marks att 0 rs)) ≡ xs
          → collect f (own j (round_calls a c marks att)) ≡ xs ++ cond (is_over j) (collect f (ask (seat a c τ j) ∷ [])) []
      reads f xs e =
          ap (λ (l : List Call). collect f (own j l)) calls_are
          ∙ read_append f j (calls a c marks att 0 rs) asks
          ∙ ap₂ ◌++◌ e (ap (collect f) own_asks ∙ collect_made f (is_over j) (ask (seat a c τ j)))

      -- ---- what party j hears

      abbrev heard_in : List Hearing
      heard_in = take (att.hears j) (hearings_from a c marks att j 0 rs)

      pub rounds_hearings : collect hearing_in (own j (round_calls a c marks att)) ≡ heard_in
      unfolding collect hearing_in ask
      rounds_hearings =
          let all : att.hears j - 0 ≡ att.hears j = omega arith in
          reads hearing_in heard_in
          (chain_hearings a c marks att many j j1 jn L 0 enoughs ∙ ap (λ (m : ℕ). take m (hearings_from a c marks att j 0 rs)) all)
          ∙ no_more (is_over j) heard_in

      -- with records that have the whole roll
      each_rolled : (Q : Party → Type 0) → ((σ : Stage) → Q (record_at a c σ j)) → (m round : ℕ) (rs : List Turn)
          → Each (λ h. Q h.party) (take m (hearings_from a c marks att j round rs))
      unfolding hearings_from
      each_rolled Q q zero round rs = tt
      each_rolled Q q (suc m) round [] = tt
      each_rolled Q q (suc m) round (r ∷ rs) = (q r.stage, each_rolled Q q m (suc round) rs)

      pub rounds_rolled : (Q : Party → Type 0) → ((σ : Stage) → Q (record_at a c σ j))
          → Each (λ h. Q h.party) (collect hearing_in (own j (round_calls a c marks att)))
      rounds_rolled Q q = subst (Each (λ h. Q h.party)) (sym rounds_hearings) (each_rolled Q q (att.hears j) 0 rs)

      hearings_long : (round : ℕ) (rs : List Turn) → length (hearings_from a c marks att j round rs) ≡ length rs
      unfolding hearings_from
      hearings_long round [] = refl
      hearings_long round (r ∷ rs) = ap suc (hearings_long (suc round) rs)

      pub rounds_heard : length (collect hearing_in (own j (round_calls a c marks att))) ≡ min (att.hears j) (rounds a)
      rounds_heard =
          ap length rounds_hearings ∙ length-take (att.hears j) (hearings_from a c marks att j 0 rs)
          ∙ ap (min (att.hears j)) (hearings_long 0 rs ∙ rounds_are a c A C)

      heard_as_said : (σ : Stage) (w : ℕ → List ℕ) (o : Heard) {τ : Stage} → Step a c σ τ w o → (round : ℕ) → Enough a.n (marks round)
          → words_heard (hearing_of a c marks att j round (record { stage = σ; words = w; opening = o })) ≡ choose (marked (marks round)) (map w (points a.n))
      unfolding words_heard record_at
      heard_as_said σ w o s round E = (hearable a c marks att many round E s j).said

      hears_present : {σ τ : Stage} {rs : List Turn} → Chain a c σ rs τ → (round : ℕ) → Enoughs a c marks att many round (length rs)
          → map words_heard (hearings_from a c marks att j round rs) ≡ present_of marks round (map (all_words a) rs)
      unfolding hearings_from present_of
      hears_present done round E = refl
      hears_present (round_on {σ} {w} {o} {rs} s r) round E =
          ap₂ (λ (ws : List (List ℕ)) (wss : List (List (List ℕ))). ws ∷ wss)
          (heard_as_said σ w o s round (E round (omega arith) (omega arith)))
          (hears_present r (suc round) (λ i l k. E i (omega arith) (omega arith)))

      pub rounds_messages : map words_heard (collect hearing_in (own j (round_calls a c marks att)))
          ≡ take (att.hears j) (present_of marks 0 (whole_spoken a c))
      rounds_messages =
          ap (map words_heard) rounds_hearings
          ∙ map_take words_heard (att.hears j) (hearings_from a c marks att j 0 rs)
          ∙ ap (take (att.hears j)) (hears_present L 0 enoughs ∙ ap (present_of marks 0) (said_are a c A C))

      pub rounds_decisions : collect decision_in (collect hearing_in (own j (round_calls a c marks att)))
          ≡ take (att.hears j / last_round (way_of a.last)) (map (decision (way_of a.last)) (probes a c))
      rounds_decisions =
          ap (collect decision_in) rounds_hearings ∙ chain_decisions a c marks att many j j1 jn L 0 (att.hears j) enoughs
          ∙ all_decide a c A C (att.hears j)

      pub rounds_bids : collect bid_in (own j (round_calls a c marks att)) ≡ []
      unfolding collect bid_in ask
      rounds_bids = reads bid_in [] (chain_none a c marks att many j j1 jn bid_in (λ q t s d. refl) (λ q t s m p. refl) L 0 enoughs) ∙ no_more (is_over j) []

      pub rounds_askings : collect asking_in (own j (round_calls a c marks att)) ≡ cond (is_over j) (record_at a c τ j ∷ []) []
      unfolding collect asking_in ask seat
      rounds_askings = reads asking_in [] (chain_none a c marks att many j j1 jn asking_in (λ q t s d. refl) (λ q t s m p. refl) L 0 enoughs)

      -- ---- what it says

      sayings_are : collect saying_in (own j (round_calls a c marks att)) ≡ collect saying_in (own j (calls a c marks att 0 rs))
      unfolding collect saying_in ask
      sayings_are = reads saying_in _ refl ∙ no_more (is_over j) _

      pub rounds_sayings : (x : Saying) → Memᴰ x (collect saying_in (own j (round_calls a c marks att))) → (i : ℕ) × Says a c i j x
      rounds_sayings x m =
          let r = chain_sayings a c marks att many j j1 jn L 0 enoughs x (subst (Memᴰ x) sayings_are m) in
          (r.0, says_at j j1 jn r.0 x r.1)

      pub rounds_says : (i : ℕ) → i < rounds a → is_present (marks i) j ≡ true → i ≤ att.hears j
          → (x : Saying) × Says a c i j x × Memᴰ x (collect saying_in (own j (round_calls a c marks att)))
      rounds_says i h p l =
          let r = some_saying a c j rs i (omega (arith, rounds_are a c A C)) in
          let at : 0 + i ≡ i = zero-add i in (
            r.0,
            says_at j j1 jn i r.0 r.1,
            subst (Memᴰ r.0) (sym sayings_are)
                (chain_says a c marks att many j j1 jn L 0 enoughs i r.0 r.1 (ap (λ (k : ℕ). is_present (marks k) j) at ∙ p) (omega arith)),
          )
