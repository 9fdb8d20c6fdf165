-- What is read off the canonical list of an auction, in closed form. Assumes nothing.
use mathlib.Core.Path.{◌≡◌, refl, sym, ap, subst, ◌∙◌}
use mathlib.Core.Bool.{true, cond}
use mathlib.Core.List.{List, [], ◌∷◌, ◌++◌, map, append-nil, Memᴰ}
use mathlib.Core.Option.{Option}
use Prim.Native.Nat.{ℕ, ◌/◌, ◌≤◌, ◌<◌, min}
use lib.ListN.{length, take}
use Rattle.ways.specs.Way.{way_of, last_round}
use Rattle.presence.specs.Presence.{is_present}
use Rattle.auction.specs.Auction.{Auction, IsAuction, rounds}
use Rattle.auction.specs.Coins.{Coins, InRange}
use Rattle.auction.specs.Desk.{Desk, Complete}
use Rattle.auction.specs.Attendance.{Marks, EnoughPresent, Attendance}
use Rattle.auction.specs.Call.{Call}
use Rattle.auction.specs.Canonical.{asks_then, canonical}
use Rattle.auction.specs.Run.{own}
use Rattle.auction.specs.Received.{collect, bid_in, Saying, saying_in, hearing_in, asking_in, received_bids, sayings, hearings, askings, messages, decisions}
use Rattle.auction.specs.Demands.{all_accepted}
use Rattle.comparison.specs.Probe.{Each}
use Rattle.record.specs.declared.Party.{Party}
use Rattle.auction.proofs.Closed.{bid_words, decision, Stage, record_at, probes}
use Rattle.auction.proofs.Calls.{read_append, all_accepted_append}
use Rattle.auction.proofs.Whole.{end, whole_spoken}
use Rattle.auction.proofs.Setup.{setup_calls, round_calls, canonical_setup, setup_accepted, setup_bids, setup_none}
use Rattle.auction.proofs.Rounds.{present_of, Says, rounds_accepted, rounds_rolled, rounds_heard, rounds_messages, rounds_decisions, rounds_bids, rounds_askings, rounds_sayings, rounds_says}

module _ (a : Auction) (c : Coins) (A : IsAuction a) (C : InRange a c) (marks : Marks) (M : EnoughPresent a marks) (desk : Desk) (D : Complete a.k desk)
    (att : Attendance) where
  pub canonical_accepted : all_accepted (canonical a c marks desk att) ≡ true
  canonical_accepted =
      ap all_accepted (canonical_setup A C marks desk D att)
      ∙ all_accepted_append (setup_calls a c desk) (round_calls a c marks att) (setup_accepted A C desk D) (rounds_accepted a c A C marks M att)

  module _ (j : ℕ) (j1 : 1 ≤ j) (jn : j ≤ a.n) where
    -- the setup, then the rounds
    reads : {B : Type 0} (f : Call → Option B) (xs : List B) → collect f (own j (setup_calls a c desk)) ≡ xs
        → collect f (own j (canonical a c marks desk att)) ≡ xs ++ collect f (own j (round_calls a c marks att))
    reads f xs e =
        ap (λ (l : List Call). collect f (own j l)) (canonical_setup A C marks desk D att)
        ∙ read_append f j (setup_calls a c desk) (round_calls a c marks att)
        ∙ ap (λ l. l ++ collect f (own j (round_calls a c marks att))) e

    pub canonical_bids : received_bids j (canonical a c marks desk att) ≡ bid_words j a.bids c.bids
    canonical_bids =
        reads bid_in _ (setup_bids A C desk j j1 jn)
        ∙ ap (λ l. bid_words j a.bids c.bids ++ l) (rounds_bids a c A C marks M att j j1 jn) ∙ append-nil _

    canonical_hearings : hearings j (canonical a c marks desk att) ≡ collect hearing_in (own j (round_calls a c marks att))
    unfolding hearing_in
    canonical_hearings = reads hearing_in [] (setup_none A C desk j j1 jn hearing_in (λ n i k l t. refl) (λ q t b s. refl))

    pub canonical_heard : length (hearings j (canonical a c marks desk att)) ≡ min (att.hears j) (rounds a)
    canonical_heard = ap length canonical_hearings ∙ rounds_heard a c A C marks M att j j1 jn

    pub canonical_rolled : (Q : Party → Type 0) → ((σ : Stage) → Q (record_at a c σ j)) → Each (λ h. Q h.party) (hearings j (canonical a c marks desk att))
    canonical_rolled Q q = subst (Each (λ h. Q h.party)) (sym canonical_hearings) (rounds_rolled a c A C marks M att j j1 jn Q q)

    pub canonical_messages : messages j (canonical a c marks desk att) ≡ take (att.hears j) (present_of marks 0 (whole_spoken a c))
    canonical_messages = ap (map _) canonical_hearings ∙ rounds_messages a c A C marks M att j j1 jn

    pub canonical_decisions : decisions j (canonical a c marks desk att) ≡ take (att.hears j / last_round (way_of a.last)) (map (decision (way_of a.last)) (probes a c))
    canonical_decisions = ap (collect _) canonical_hearings ∙ rounds_decisions a c A C marks M att j j1 jn

    pub canonical_askings : askings j (canonical a c marks desk att) ≡ cond (asks_then marks att (rounds a) j) (record_at a c (end a c) j ∷ []) []
    unfolding asking_in
    canonical_askings = reads asking_in [] (setup_none A C desk j j1 jn asking_in (λ n i k l t. refl) (λ q t b s. refl)) ∙ rounds_askings a c A C marks M att j j1 jn

    sayings_are : sayings j (canonical a c marks desk att) ≡ collect saying_in (own j (round_calls a c marks att))
    unfolding saying_in
    sayings_are = reads saying_in [] (setup_none A C desk j j1 jn saying_in (λ n i k l t. refl) (λ q t b s. refl))

    pub canonical_sayings : (x : Saying) → Memᴰ x (sayings j (canonical a c marks desk att)) → (i : ℕ) × Says a c i j x
    canonical_sayings x m = rounds_sayings a c A C marks M att j j1 jn x (subst (Memᴰ x) sayings_are m)

    pub canonical_says : (i : ℕ) → i < rounds a → is_present (marks i) j ≡ true → i ≤ att.hears j
        → (x : Saying) × Says a c i j x × Memᴰ x (sayings j (canonical a c marks desk att))
    canonical_says i h p l =
        let r = rounds_says a c A C marks M att j j1 jn i h p l in
        (r.0, r.1, subst (Memᴰ r.0) (sym sayings_are) r.2)
