-- A round of the program is a round of the auction. Assumes nothing.
use mathlib.Core.Path.{◌≡◌, refl, sym, ap, ap₂, subst, ◌∙◌}
use mathlib.Core.List.{List, [], ◌∷◌, map}
use Prim.Native.Nat.{ℕ, zero, suc, ◌+◌, ◌*◌, ◌<◌}
use native.Mathlib.Numerals.{add-one}
use native.Mathlib.Omega.{arith}
use lib.ListN.{get_or, replicate}
use Rattle.ranges.specs.Lists.{from}
use Rattle.ways.specs.Way.{Way, way_of, levels_of, width}
use Rattle.sharing.specs.Scheme.{points}
use Rattle.presence.specs.Presence.{everyone}
use Rattle.round.specs.declared.Heard.{Heard}
use Rattle.search.specs.Limit.{most_probes}
use Rattle.search.specs.declared.searches.Search.{Search}
use Rattle.search.specs.Searches.{next}
use Rattle.comparison.specs.Probe.{SheetCoins, Probe}
use Rattle.record.specs.declared.Party.{Party}
use Rattle.auction.specs.Auction.{Auction, IsAuction}
use Rattle.listening.specs.Listen.{width_of}
use Rattle.auction.specs.Coins.{Coins, InRange, flat}
use Rattle.auction.specs.Canonical.{Seat, words, words_by, after_hearing}
use Rattle.auction.proofs.Closed.{polynomials, probe_of, Stage, decided_stage, record_at, seat}
use Rattle.auction.proofs.Step.{Step, wide}
use Rattle.auction.proofs.Present.{all_hearable}
use Rattle.auction.proofs.Round.{Ready, stage_of, words_at, opening_at, first_step, product_step, last_step}
use Rattle.draws.specs.Draws.{last_rehearsed}
use Rattle.record.specs.Record.{blank}
use Rattle.panel.specs.Parties.{All, part}
use Rattle.panel_rounds.specs.Round.{said_by, all_said, heard_by}
use Rattle.standing.proofs.Standing.{Stands, verdict_at}

map_shifted : (f g : ℕ → List ℕ) (a m : ℕ) → ((i : ℕ) → i < m → f (a + i) ≡ g (suc a + i)) → map f (from a m) ≡ map g (from (suc a) m)
unfolding from
map_shifted f g a zero h = refl
map_shifted f g a (suc m) h =
    let e : f a ≡ g (suc a) = ap f (omega arith) ∙ h 0 (omega arith) ∙ ap g (omega arith) in
    ap₂ (λ (x : List ℕ) (xs : List (List ℕ)). x ∷ xs) e
    (map_shifted f g (suc a) m (λ i l. ap f (omega arith) ∙ h (suc i) (omega arith) ∙ ap g (omega arith)))

-- party 1's record
pub first_record : (a : Auction) (c : Coins) → IsAuction a → (σ : Stage) (parties : List Party) (totals sheets : List ℕ) → Stands a c σ parties totals sheets
    → get_or parties 0 blank ≡ record_at a c σ 1
unfolding seat
first_record a c A σ parties totals sheets H = ap (λ (s : Seat). s.party) (H 0 (omega (arith, A.n_least)))

-- of 33 rounds each has one word
one_word : (a : Auction) → a.last ≡ last_rehearsed → (σ : Stage) → wide a σ ≡ 1
unfolding way_of width
one_word a e σ = ap (λ (last : ℕ). width (way_of last) σ.round) e

module _ (a : Auction) (c : Coins) (A : IsAuction a) (keeps : a.last ≡ last_rehearsed) (σ τ : Stage) (w : ℕ → List ℕ) (o : Heard) (S : Step a c σ τ w o)
    (parties : List Party) (totals sheets : List ℕ) (H : Stands a c σ parties totals sheets) where
  abbrev said : ℕ → List ℕ
  said i = said_by a.k (127 * most_probes a.k) parties totals sheets i (0 ∷ [])

  says : (i : ℕ) → i < a.n → said i ≡ w (i + 1)
  unfolding said_by words_by words seat record_at
  says i h =
      let one : width_of (get_or parties i blank) ≡ 1 = ap (λ (s : Seat). width_of s.party) (H i h) ∙ one_word a keeps σ in
      ap (λ (m : ℕ). said_by a.k (127 * most_probes a.k) parties totals sheets i (replicate m 0)) (sym one)
      ∙ ap words_by (H i h) ∙ S.words (i + 1) (omega arith) (omega arith)

  pub words_said : all_said a.n a.k parties totals sheets ≡ flat (map w (points a.n))
  unfolding all_said
  words_said = ap flat (map_shifted said w 0 a.n (λ i h. ap said (omega arith) ∙ says i h ∙ ap w (omega arith)))

  -- after the round
  pub round_stands : (after : List Party)
      → All a.n
      (λ i. get_or after i blank
      ≡ heard_by a.k (127 * most_probes a.k) parties totals sheets (all_said a.n a.k parties totals sheets) (everyone a.n) i)
      → Stands a c τ after totals sheets
  unfolding heard_by after_hearing
  round_stands after e i h =
      let messages : List ℕ = flat (map w (points a.n)) in
      ap (λ (q : Party). record { party = q; totals = part (2 * a.k) i totals; sheets = part (127 * most_probes a.k) i sheets })
      (e i h ∙ ap (λ (x : List ℕ). heard_by a.k (127 * most_probes a.k) parties totals sheets x (everyone a.n) i) words_said)
      ∙ ap (after_hearing messages (everyone a.n)) (H i h)
      ∙ S.next messages (everyone a.n) (all_hearable a.n (wide a σ) w A.n_least S.long) (i + 1) (omega arith) (omega arith)

-- ---- the rounds of a probe

module _ (a : Auction) (c : Coins) (A : IsAuction a) (keeps : a.last ≡ last_rehearsed) (C : InRange a c) (here : Search) (s : SheetCoins)
    (ss : List SheetCoins) (R : Ready a c here s ss) where
  abbrev q : Probe
  q = probe_of a (polynomials a c) here s

  abbrev way : Way
  way = way_of a.last

  levels : levels_of way ≡ 31
  unfolding way_of levels_of
  levels = ap (λ (last : ℕ). levels_of (way_of last)) keeps

  -- rounds 1 to 32
  pub step_at : (i : ℕ) → i < 32 → Step a c (stage_of way here q i) (stage_of way here q (i + 1)) (words_at way q i) (opening_at way q i)
  step_at zero h = first_step a c A C here s ss R way refl
  step_at (suc i) h = rw (add-one (suc i)) (product_step a c A C here s ss R way refl i (omega (arith, levels)))

  -- round 33
  pub step_last : Step a c (stage_of way here q 32) (decided_stage (next here (verdict_at a c here s))) (words_at way q 32) (opening_at way q 32)
  step_last =
      subst (λ (m : ℕ). Step a c (stage_of way here q (suc m)) (decided_stage (next here (verdict_at a c here s))) (words_at way q (suc m)) (opening_at way q (suc m)))
      levels (last_step a c A C here s ss R way refl)
