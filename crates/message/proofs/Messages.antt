-- The message, round by round. Assumes nothing.
use mathlib.Core.Path.{◌≡◌, refl, sym, ap, ◌∙◌}
use mathlib.Core.Bool.{Bool, true, false, cond, ◌&&◌, true≢false}
use mathlib.Core.List.{List, [], ◌∷◌}
use Prim.Native.Nat.{ℕ, ◌/◌, ◌^◌, ◌≤◌, ◌<◌}
use native.Mathlib.Omega.{arith}
use native.Mathlib.Decide.{ℕ_discrete, dec_le}
use lib.Dec.{eqb, leb, ltb}
use lib.ListN.{length, drop}
use borrow.Author.Tests.{eqb-true, leb-true, eq-eqb, ne_eqb, le-leb, lt-leb}
use Rattle.ranges.specs.Lists.{every}
use Rattle.ranges.specs.Sizes.{long}
use Rattle.ranges.proofs.Loops.{and-true, and_false}
use Rattle.ways.specs.Way.{Way, chain, tree, way_of, width, sheet_size}
use Rattle.ways.proofs.Laws.{way_tree, way_chain, sheet_tree, sheet_some}
use Rattle.kept_pairs.specs.Pairs.{small}
use Rattle.search.specs.Searches.{clears}
use Rattle.record.proofs.Soundness.{Sound, last_most}
use Rattle.message.proofs.Sheets.{probe_words}
use Rattle.fields.specs.Amount.{amounts}
use Rattle.fields.specs.Byte.{bytes}
use Rattle.comparison.specs.Local.{on_shares}
use Rattle.comparison.specs.Rounds.{masked, left, right, both, last}
use Rattle.search.specs.Searches.{side}
use Rattle.record.specs.declared.Party.{Party}
use Rattle.message.specs.Message.{demand_share, supply_share, total_share, sheet_words, mask_share, bit_share, triple_share, in_level, carry_share, single_word, single, message}
use Rattle.level.specs.Level.{level_words, Ready}
use Rattle.level.proofs.Laws.{words_many}

module _ (q : Party) (totals sheet : List ℕ) where
  pub first_single : q.round ≡ 1
      → single q totals sheet ≡ masked (on_shares amounts) (mask_share sheet) (side q.search.which (demand_share q totals) (supply_share q totals))
      (side q.search.which (supply_share q totals) (demand_share q totals))
  unfolding single_word
  first_single e = rw (eq-eqb q.round 1 e)

  pub product_single : 2 ≤ q.round → q.round ≤ 32 → (q.round ≡ q.last → ⊥) → (q.last ≡ 7 → ⊥)
      → single q totals sheet
      ≡ both (left (on_shares bytes) q.sum q.round (bit_share sheet q.round) (triple_share sheet q.round 0))
      (right (on_shares bytes) q.sum q.round q.carry (triple_share sheet q.round 1))
  unfolding single_word
  product_single least most n other = rw (ne_eqb q.round 1 (λ e. omega arith), ne_eqb q.round q.last n, le-leb q.round 32 most, ne_eqb q.last 7 other)

  pub last_single : (q.round ≡ 1 → ⊥) → q.round ≡ q.last → single q totals sheet ≡ last (on_shares bytes) q.sum (bit_share sheet 33) (carry_share q)
  unfolding single_word
  last_single n e = rw (ne_eqb q.round 1 n, eq-eqb q.round q.last e)

  -- after the last probe
  pub total_single : 33 < q.round → q.last ≤ 33 → single q totals sheet ≡ total_share q totals
  unfolding single_word
  total_single l m =
      rw (ne_eqb q.round 1 (λ f. omega arith), ne_eqb q.round q.last (λ f. omega arith), lt-leb q.round 32 (omega arith))

  -- a level's words, or a single one
  pub level_message : in_level q ≡ true → message q totals sheet ≡ level_words q.round q.sum q.pairs.words sheet
  unfolding message
  level_message e = rw e

  pub single_message : in_level q ≡ false → message q totals sheet ≡ single q totals sheet ∷ []
  unfolding message
  single_message e = rw e

-- ---- a level of seven rounds

pub level_facts : (q : Party) → in_level q ≡ true → (q.last ≡ 7) × (2 ≤ q.round) × (q.round ≤ 6)
level_facts q e =
    let a = and-true (eqb q.last 7) (leb 2 q.round && leb q.round 6) e in
    let b = and-true (leb 2 q.round) (leb q.round 6) a.1 in
    (eqb-true q.last 7 a.0, leb-true 2 q.round b.0, leb-true q.round 6 b.1)

pub level_wide : (q : Party) → in_level q ≡ true → width (way_of q.last) q.round ≡ width tree q.round
level_wide q e = ap (λ (w : Way). width w q.round) (way_tree q.last (level_facts q e).0)

pub level_ready : (q : Party) (sheet : List ℕ) → Sound q → in_level q ≡ true → length sheet ≡ sheet_words q
    → every (λ w. ltb w 256) (drop 1 sheet) ≡ true → Ready q.round q.pairs.words sheet
unfolding small
level_ready q sheet h e l b =
    let f = level_facts q e in
    let p = and-true (long 32 q.pairs.words) (every (λ w. ltb w 256) q.pairs.words) h.pairs in
    record {
      least = f.1;
      most = f.2;
      kept_long = eqb-true (length q.pairs.words) 32 p.0;
      kept_bytes = p.1;
      sheet_long = l ∙ probe_words q (omega (arith, f.2)) ∙ ap sheet_size (way_tree q.last f.0) ∙ sheet_tree;
      sheet_bytes = b;
    }

-- else one word is said
pub single_wide : (q : Party) → in_level q ≡ false → width (way_of q.last) q.round ≡ 1
unfolding width
single_wide q e =
    elim (ℕ_discrete q.last 7) [
      | yes seven ↦ ap (λ (w : Way). width w q.round) (way_tree q.last seven) ∙ one_wide q.round (λ a b. true≢false (sym (in_level_of seven a b) ∙ e))
      | no other ↦ ap (λ (w : Way). width w q.round) (way_chain q.last other) ∙ chain_wide q.round
    ]
  where
    in_level_of : q.last ≡ 7 → 2 ≤ q.round → q.round ≤ 6 → in_level q ≡ true
    in_level_of a b c = rw (eq-eqb q.last 7 a, le-leb 2 q.round b, le-leb q.round 6 c)

    chain_wide : (round : ℕ) → width chain round ≡ 1
    chain_wide round = refl

    past : (round : ℕ) → (2 ≤ round → round ≤ 6 → ⊥) → (round ≡ 7 → ⊥) → 2 ≤ round → 7 < round
    past round n other h = elim (dec_le round 6) [ yes l ↦ absurd (n h l) | no g ↦ omega (arith, other) ]

    one_wide : (round : ℕ) → (2 ≤ round → round ≤ 6 → ⊥) → width tree round ≡ 1
    one_wide round n =
        elim (ℕ_discrete round 7) [
          | yes seven ↦ ap (λ (i : ℕ). cond (leb 2 i && leb i 7) (128 / 2 ^ i) 1) seven
          | no other ↦
              elim (dec_le 2 round) [
                | yes le ↦ ap (λ (b : Bool). cond b (128 / 2 ^ round) 1) (and_false (leb 2 round) (leb round 7) (lt-leb round 7 (past round n other le)))
                | no gt ↦ rw (lt-leb 2 round (omega arith))
              ]
        ]

-- the words that there are
pub sheet_at_least : (q : Party) (sheet : List ℕ) → q.round ≤ 33 → length sheet ≡ sheet_words q → 127 ≤ length sheet
sheet_at_least q sheet l e = omega (arith, probe_words q l, (sheet_some (way_of q.last)).0)

less : (round last : ℕ) → round ≤ last → last ≤ 33 → (round ≡ last → ⊥) → round ≤ 32
less round last a b n = omega (arith, n)

-- of 33 rounds one before the last
pub inner_most : (q : Party) → Sound q → q.round ≤ 33 → (q.round ≡ q.last → ⊥) → q.round ≤ 32
inner_most q h l n = split (clears q.search) refl
  where
    split : (t : Bool) → clears q.search ≡ t → q.round ≤ 32
    split true c = absurd (omega (arith, (h.round.opening c).0))
    split false c =
        let a = h.round.probing c in
        let b = last_most q.last h.way in
        less q.round q.last a b n

-- as many words as the round has
pub message_length : (q : Party) (totals sheet : List ℕ) → Sound q → length sheet ≡ sheet_words q → every (λ w. ltb w 256) (drop 1 sheet) ≡ true
    → length (message q totals sheet) ≡ width (way_of q.last) q.round
message_length q totals sheet h l b = split (in_level q) refl
  where
    split : (t : Bool) → in_level q ≡ t → length (message q totals sheet) ≡ width (way_of q.last) q.round
    split true e =
        ap length (level_message q totals sheet e) ∙ words_many q.round q.sum q.pairs.words sheet (level_ready q sheet h e l b) ∙ sym (level_wide q e)
    split false e = ap length (single_message q totals sheet e) ∙ sym (single_wide q e)
