-- Sheet after sheet is dealt to a party. Assumes nothing.
use mathlib.Core.Path.{◌≡◌, refl, sym, ap, ap₂, ◌∙◌}
use mathlib.Core.List.{List, ◌∷◌, ◌++◌, append_assoc, append-nil}
use Prim.Native.Nat.{ℕ, suc, ◌+◌, ◌-◌, ◌*◌, ◌%◌, ◌^◌, ◌≤◌, ◌<◌}
use native.Mathlib.Omega.{arith}
use lib.ListN.{length, take, drop, length-append, length-drop}
use lib.Seq.{length-take-le, take_at, take_all}
use Rattle.ranges.proofs.Ranges.{IsParty}
use Rattle.sharing.specs.Scheme.{threshold}
use Rattle.ways.specs.Way.{is_way, way_of, triples_of, sheet_size}
use Rattle.comparison.specs.Probe.{SheetCoins, sheet_polynomials, sheet_shares}
use Rattle.dealer.specs.Deal.{deal_left}
use Rattle.auction.specs.Coins.{flat}
use Rattle.auction.proofs.Dealing.{deal_writes}
use Rattle.auction.proofs.Sheets.{words_long}
use Rattle.draws.specs.Draws.{next, next_coin, later, drawn_coins, drawn_bytes, last_rehearsed, sheet_coins, after_sheet, all_sheets}
use Rattle.panel.specs.Parties.{sheet_dealt}
use Rattle.drawn_sheets.specs.Dealt.{sheet_put, sheets_of}
use Rattle.draws.proofs.Drawn.{Word, sheet_in_range, words_drawn, bytes_drawn}

module _ (n j : ℕ) (P : IsParty n j) where
  -- what the draws from a state on are dealt as
  pub dealt_put : (state at : ℕ) (words drawn sheets : List ℕ) → Word state → at + 127 ≤ length sheets
      → words ≡ next state % 2 ^ 58 ∷ drawn_coins (threshold n) (next state)
      → drawn ≡ drawn_bytes (126 * threshold n + 62) (later next_coin (threshold n) (next state))
      → sheet_dealt n j last_rehearsed words drawn at sheets ≡ sheet_put (threshold n) state j at sheets
  unfolding sheet_dealt sheet_put sheet_size is_way way_of triples_of
  dealt_put state at words drawn sheets w l ew ed =
      let s : SheetCoins = sheet_coins (threshold n) state in
      ap₂ (λ (x y : List ℕ). take at sheets ++ (deal_left n j last_rehearsed x y (take 127 (drop at sheets)) ++ drop (at + 127) sheets))
      (ew ∙ sym (words_drawn (threshold n) state)) (ed ∙ sym (bytes_drawn (threshold n) state))
      ∙ ap (λ (x : List ℕ). take at sheets ++ (x ++ drop (at + 127) sheets))
      (deal_writes n j last_rehearsed P refl s (sheet_in_range (threshold n) state w) (take 127 (drop at sheets))
      (length-take-le 127 (drop at sheets) (omega (arith, length-drop at sheets))))

-- one sheet more
pub one_sheet : (t j state m i : ℕ) (xs : List ℕ) (whole : List ℕ) → Word state → i < m → 127 * i + 127 ≤ length xs
    → take (127 * i) xs ++ sheets_of j (all_sheets t (m - i) state) ≡ whole
    → take (127 * (i + 1)) (sheet_put t state j (127 * i) xs) ++ sheets_of j (all_sheets t (m - (i + 1)) (after_sheet t state)) ≡ whole
unfolding sheet_put sheets_of all_sheets flat sheet_size way_of triples_of
one_sheet t j state m i xs whole w h l e =
    let W : List ℕ = sheet_shares j (sheet_polynomials (sheet_coins t state)) in
    let front : List ℕ = take (127 * i) xs in
    let rest : List ℕ = sheets_of j (all_sheets t (m - (i + 1)) (after_sheet t state)) in
    let k : m - i ≡ suc (m - (i + 1)) = omega arith in
    let lw : length W ≡ 127 = words_long (way_of last_rehearsed) t j (sheet_coins t state) (sheet_in_range t state w) in
    let lf : length (front ++ W) ≡ 127 * (i + 1) = length-append front W ∙ ap₂ ◌+◌ (length-take-le (127 * i) xs (omega arith)) lw ∙ omega arith in
    ap (λ (z : List ℕ). z ++ rest)
    (ap (take (127 * (i + 1))) (sym (append_assoc front W (drop (127 * i + 127) xs))) ∙ take_at (front ++ W) (drop (127 * i + 127) xs) (127 * (i + 1)) lf)
    ∙ append_assoc front W rest
    ∙ ap (λ (z : ℕ). front ++ sheets_of j (all_sheets t z state)) (sym k)
    ∙ e

-- all sheets
pub no_sheet : (t j state m i : ℕ) (xs whole : List ℕ) → m ≤ i → length xs ≤ 127 * i
    → take (127 * i) xs ++ sheets_of j (all_sheets t (m - i) state) ≡ whole → xs ≡ whole
unfolding sheets_of all_sheets flat
no_sheet t j state m i xs whole h l e =
    let z : m - i ≡ 0 = omega arith in
    sym (append-nil xs)
    ∙ ap₂ (λ (a b : List ℕ). a ++ b) (sym (take_all (127 * i) xs l)) (ap (λ (k : ℕ). sheets_of j (all_sheets t k state)) (sym z))
    ∙ e
