-- THE STARRED LINES of document 01, gathered as one list. Assumes nothing.
use Rattle.std.specs.Prelude.{None, Ok}
use mathlib.Core.Path.{◌≡◌, refl, sym, ap, ap₂, ◌∙◌}
use mathlib.Core.Bool.{Bool, true, false, cond, not, ◌&&◌, ◌||◌, true≢false}
use mathlib.Core.List.{List, [], ◌∷◌}
use Prim.Native.Nat.{ℕ, zero, suc, ◌+◌, ◌-◌, ◌*◌, ◌^◌, ◌<◌}
use native.Mathlib.Omega.{arith}
use lib.Dec.{leb, eqb}
use lib.ListN.{length, take, drop, get_or, replicate}
use borrow.Author.Tests.{ne_eqb}
use Rattle.fields.specs.Gap.{amount_gap}
use Rattle.fields.specs.Byte.{xor, xtimes, terms, product}
use Rattle.refusal.specs.Refusal.{code_of}
use Rattle.refusal.specs.Judging.{judged}
use Rattle.ranges.specs.Lists.{from, every}
use Rattle.sharing.specs.Polynomial.{value}
use Rattle.sharing.specs.Scheme.{threshold}
use Rattle.ranges.specs.Sizes.{party, listed, long}
use Rattle.weights.specs.Rows.{amount_scheme}
use Rattle.weights.specs.Products.{products}
use Rattle.openings.specs.Opening.{total, moments, readable, settled, opened}
use Rattle.presence.specs.Presence.{how_many, is_present, everyone}
use Rattle.lowering.specs.Lines.{lowered, descended}
use Rattle.openings_at.specs.At.{agreed, opened_at}
use Rattle.present_openings.specs.Present.{sized, opened_by}
use Rattle.search.specs.Bracket.{start, middle, over}
use Rattle.search.specs.Limit.{digits, limit, most_probes}
use Rattle.search.specs.Searches.{side, first_search, finished, clears}
use Rattle.verdict.specs.Verdict.{verdict}
use Rattle.comparison.specs.Rounds.{offset, masked}
use Rattle.comparison.specs.Probe.{Probe}
use Rattle.comparison.proofs.Dealt.{shared_cons}
use Rattle.comparison.proofs.Promise as promise
use Rattle.comparison.proofs.Promise.{sum_law, promised}
use Rattle.record.specs.declared.Party.{Party}
use Rattle.ranges.proofs.Loops.{and_false}
use Rattle.ranges.proofs.Ranges.{on_list}
use Rattle.record.proofs.Soundness.{sound_of}
use Rattle.record.proofs.Updates.{fresh_sound}
use Rattle.record.specs.Record.{ended}
use Rattle.record.specs.Updates.{fresh}
use Rattle.ways.specs.Way.{is_way, way_of, sheet_size, triples_of, width}
use Rattle.ranges.specs.Lists.{same}
use Rattle.ranges.proofs.Compared.{same_self}
use Rattle.refusal.proofs.Judging.{kept_new}
use Rattle.refusal.specs.Judging.{kept}
use Rattle.stepping.specs.After.{role}
use Rattle.message.proofs.Messages.{single_wide}
use Rattle.message.specs.Message.{index, sheet_words, used_words, are_shares, in_field, message, single_word, in_level}
use Rattle.saying.specs.Say.{current, say_judgement, say_left}
use Rattle.round.specs.Round.{heard, unopened}
use Rattle.listening.specs.Listen.{width_of, own_words, opening, messages_judgement}
use Rattle.hearing.specs.Hear.{hear_judgement}
use Rattle.refusal.proofs.Judging.{refuses, passes}
use Rattle.message.proofs.Sheets.{in_field_of, in_field_any}
use Rattle.saying.proofs.Laws.{says, turn_accepted}
use Rattle.listening.proofs.Laws.{one_opening}
use Rattle.hearing.proofs.Hears.{by_messages}
use Rattle.starred.specs.Starred.{with_73, compared, Compares, Starred}

-- ---- "With 73 last: refusal 10"

inconsistent : opened_by amount_scheme 5 (everyone 5) with_73 ≡ None
unfolding opened_by sized opened_at agreed descended lowered amount_gap every from
inconsistent = refl

-- a party's word of round 1
own_word : (k : ℕ) (xs : List ℕ) → k < length xs → take 1 (drop k xs) ≡ get_or xs k 0 ∷ []
own_word k [] h = absurd (omega arith)
own_word zero (x ∷ xs) h = refl
own_word (suc k) (x ∷ xs) h = own_word k xs (omega arith)

early : (q : Party) → q.round ≡ 1 → in_level q ≡ false
early q e = and_false (eqb q.last 7) (leb 2 q.round && leb q.round 6) (ap (λ (r : ℕ). leb 2 r && leb r 6) e)

not_last : (last : ℕ) → is_way last ≡ true → (1 ≡ last → ⊥)
unfolding is_way
not_last last h e = true≢false (sym h ∙ ap (λ (z : ℕ). eqb z 33 || eqb z 7) (sym e))

refused : (q : Party) (totals sheets said : List ℕ) → q.n ≡ 5 → q.round ≡ 1 → say_judgement q totals sheets said ≡ Ok tt
    → say_left q totals sheets said ≡ get_or with_73 (q.own - 1) 0 ∷ [] → code_of (hear_judgement q totals sheets with_73 (everyone 5)) ≡ 10
unfolding heard every messages_judgement
refused q totals sheets said n_is round_is accepted e =
    let f = says q totals sheets said accepted in
    let sheet : List ℕ = current q sheets in
    let words : message q totals sheet ≡ get_or with_73 (q.own - 1) 0 ∷ [] = sym (kept_new _ _ said accepted) ∙ e in
    let wide : width_of q ≡ 1 = single_wide q (early q round_is) in
    let many : long (q.n * width_of q) with_73 && long q.n (everyone 5) ≡ true = rw (wide, n_is) in
    let enough : leb (how_many (everyone 5)) (threshold q.n) ≡ false = rw n_is in
    let here : Bool = is_present (everyone 5) q.own in
    let field : not (in_field q here totals sheet) ≡ false = ap not (in_field_of q here totals sheet (in_field_any q here totals sheet f.in_field)) in
    let one : (q.own - 1) * 1 ≡ q.own - 1 = omega arith in
    let mine : own_words q with_73 ≡ message q totals sheet =
    ap (λ (w : ℕ). take w (drop ((q.own - 1) * w) with_73)) wide ∙ ap (λ (k : ℕ). take 1 (drop k with_73)) one
    ∙ own_word (q.own - 1) with_73 (omega (arith, n_is, f.turn.sound.listed.own_least, f.turn.sound.listed.own_most)) ∙ sym words in
    let own : here && not (same (own_words q with_73) (message q totals sheet)) ≡ false =
    and_false here _ (ap not (ap (λ (xs : List ℕ). same xs (message q totals sheet)) mine ∙ same_self (message q totals sheet))) in
    let first : role q ≡ 1 = ap (λ (r : ℕ). cond (eqb r q.last) 33 r) round_is ∙ ap (λ (b : Bool). cond b 33 1) (ne_eqb 1 q.last (not_last q.last f.turn.sound.way)) in
    let crooks : unopened (opening q (everyone 5) with_73) ≡ true =
    ap unopened (one_opening q with_73 (everyone 5) (early q round_is) ∙ ap₂ (λ (n r : ℕ). heard n r (everyone 5) with_73) n_is first) ∙ rw inconsistent in
    ap code_of
    (by_messages q totals sheets with_73 (everyone 5) (turn_accepted q totals sheets _ _ f.turn refl many)
    ∙ passes _ _ _ enough ∙ passes _ _ _ field ∙ passes _ _ _ own ∙ refuses _ _ _ crooks)

listed_one : party 5 1 && listed 1 ≡ true
unfolding party listed
listed_one = refl

ways_are : (is_way 33 ≡ true) × (is_way 7 ≡ true)
unfolding is_way
ways_are = (refl, refl)

said : say_left (fresh 5 1 1 33) (0 ∷ 0 ∷ []) ((offset - 12) ∷ replicate 253 0) (0 ∷ []) ≡ 12 ∷ []
unfolding say_judgement judged kept fresh first_search start most_probes limit digits ended clears finished over middle index sheet_words current used_words are_shares every message single_word side masked way_of sheet_size triples_of width
said = rw (sound_of (fresh 5 1 1 33) (fresh_sound 5 1 1 33 (on_list 5 1 1 listed_one) ways_are.0))

said_in_seven : say_left (fresh 5 1 1 7) (0 ∷ 0 ∷ []) ((offset - 12) ∷ replicate 439 0) (0 ∷ []) ≡ 12 ∷ []
unfolding say_judgement judged kept fresh first_search start most_probes limit digits ended clears finished over middle index sheet_words current used_words are_shares every message single_word side masked way_of sheet_size triples_of width
said_in_seven = rw (sound_of (fresh 5 1 1 7) (fresh_sound 5 1 1 7 (on_list 5 1 1 listed_one) ways_are.1))

-- ---- comparisons

line : (demand supply mask T v : ℕ) → demand < 2 ^ 32 → supply < 2 ^ 32 → T + mask + supply ≡ 2 ^ 59 + 2 ^ 32 + demand → verdict demand supply ≡ v
    → Compares demand supply mask T v
line demand supply mask T v hd hs sum verdict_is w t ds ss c gd gs ranged mask_is =
    let q : Probe = compared demand supply ds ss c in
    let h : promise.Compares w t demand supply c q =
    record {
      demand_shared = shared_cons demand ds (omega arith) gd;
      supply_shared = shared_cons supply ss (omega arith) gs;
      demand_is = refl;
      supply_is = refl;
      demand_lt = hd;
      supply_lt = hs;
      ranged = ranged;
      sheet_is = refl;
    } in
    (omega (arith, sum_law w t demand supply c q h), promised w t demand supply c q h ∙ verdict_is)

-- ---- the list

pub checked : Starred
unfolding product terms xtimes xor value from opened readable every settled moments products total verdict
checked =
    record {
      largest_squared = refl;
      byte_product = refl;
      byte_product_2 = refl;
      five_shares = refl;
      five_open = refl;
      five_refused = refused;
      five_said = said;
      five_said_in_seven = said_in_seven;
      three_shares = refl;
      three_byte_shares = refl;
      five_against_three = line 5 3 7 (2 ^ 59 + 2 ^ 32 - 5) 1 (omega arith) (omega arith) refl refl;
      three_against_five = line 3 5 7 (2 ^ 59 + 2 ^ 32 - 9) 0 (omega arith) (omega arith) refl refl;
      none_against_none = line 0 0 0 (2 ^ 59 + 2 ^ 32) 1 (omega arith) (omega arith) refl refl;
      none_against_all = line 0 (2 ^ 32 - 1) (2 ^ 58 - 1) (2 ^ 58 + 2) 0 (omega arith) (omega arith) refl refl;
    }
