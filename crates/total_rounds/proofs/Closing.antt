-- Rounds to the end of a session, one by one: where the parties stand, and which rounds are left. Assumes nothing.
use mathlib.Core.Path.{◌≡◌, refl, sym, ap, ◌∙◌}
use mathlib.Core.Bool.{Bool, true, false, not, ◌&&◌, true≢false}
use mathlib.Core.List.{List}
use Prim.Native.Nat.{ℕ, ◌+◌, ◌*◌, ◌≤◌}
use native.Mathlib.Omega.{arith}
use lib.Dec.{ltb}
use lib.ListN.{length, get_or}
use borrow.Author.Tests.{ltb-false}
use Rattle.presence.specs.Presence.{everyone}
use Rattle.search.specs.Limit.{most_probes}
use Rattle.record.specs.declared.Party.{Party}
use Rattle.record.specs.Record.{ended, blank}
use Rattle.auction.specs.Auction.{Auction, IsAuction}
use Rattle.auction.specs.Coins.{Coins, InRange}
use Rattle.auction.proofs.Closed.{Stage, decided_stage, record_at}
use Rattle.auction.proofs.Chain.{Turn, Chain, done, round_on}
use Rattle.auction.proofs.Whole.{last, end, last_chain, last_few}
use Rattle.draws.specs.Draws.{last_rehearsed}
use Rattle.panel.specs.Parties.{All}
use Rattle.panel_rounds.specs.Round.{all_said, heard_by}
use Rattle.standing.proofs.Standing.{Stands}
use Rattle.standing.proofs.Rounds.{first_record, round_stands}

-- where a loop has stopped, and not because it is over, it has made as many as it may
pub stopped : (made most : ℕ) (more over : Bool) → (ltb made most && more) ≡ false → more ≡ not over → over ≡ false → most ≤ made
stopped made most more over left told going = ltb-false made most (both (ltb made most) more left (told ∙ ap not going))
  where
    both : (x m : Bool) → (x && m) ≡ false → m ≡ true → x ≡ false
    both true m e f = sym f ∙ e
    both false m e f = refl

-- so many are made, and at most two are left to the stage τ
pub record Closing (a : Auction) (c : Coins) (τ : Stage) (parties : List Party) (totals sheets : List ℕ) (made : ℕ) : Type 0 where
  pub stage : Stage
  pub left : List Turn
  pub chain : Chain a c stage left τ
  pub few : made + length left ≤ 2
  pub stands : Stands a c stage parties totals sheets

module _ (a : Auction) (c : Coins) (A : IsAuction a) (keeps : a.last ≡ last_rehearsed) (totals sheets : List ℕ) where
  module _ (τ : Stage) (over : ended (record_at a c τ 1) ≡ true) (parties : List Party) (made : ℕ) where
    -- party 1 tells whether it is over
    told : (σ : Stage) → Stands a c σ parties totals sheets → ended (get_or parties 0 blank) ≡ ended (record_at a c σ 1)
    told σ H = ap ended (first_record a c A σ parties totals sheets H)

    -- one round more
    pub closing_more : Closing a c τ parties totals sheets made → ended (get_or parties 0 blank) ≡ false → (after : List Party)
        → All a.n (λ i. get_or after i blank
        ≡ heard_by a.k (127 * most_probes a.k) parties totals sheets (all_said a.n a.k parties totals sheets) (everyone a.n) i)
        → Closing a c τ after totals sheets (made + 1)
    closing_more B going after e = on B.chain B.few B.stands
      where
        on : {σ : Stage} {rs : List Turn} → Chain a c σ rs τ → made + length rs ≤ 2 → Stands a c σ parties totals sheets → Closing a c τ after totals sheets (made + 1)
        on done few H = absurd (true≢false (sym over ∙ sym (told τ H) ∙ going))
        on (round_on S later) few H =
            record { stage = _; left = _; chain = later; few = omega (arith, few); stands = round_stands a c A keeps _ _ _ _ S parties totals sheets H after e }

    -- none is left once party 1 says so, or two are made
    pub closing_end : Closing a c τ parties totals sheets made → (ended (get_or parties 0 blank) ≡ false → 2 ≤ made) → Stands a c τ parties totals sheets
    closing_end B h = on B.chain B.few B.stands
      where
        on : {σ : Stage} {rs : List Turn} → Chain a c σ rs τ → made + length rs ≤ 2 → Stands a c σ parties totals sheets → Stands a c τ parties totals sheets
        on done few H = H
        on {σ} (round_on S later) few H = absurd (omega (arith, few, h (told σ H ∙ S.going 1)))

  -- after the last probe
  pub closing_start : InRange a c → (parties : List Party) → Stands a c (decided_stage (last a c)) parties totals sheets
      → Closing a c (end a c) parties totals sheets 0
  closing_start C parties H =
      record { stage = decided_stage (last a c); left = _; chain = last_chain a c A C; few = omega (arith, last_few a c A C); stands = H }
