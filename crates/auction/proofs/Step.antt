-- One round of all parties, whoever is present: when every call of it is accepted, and what every party then has. Assumes nothing.
use Rattle.std.specs.Prelude.{Ok}
use mathlib.Core.Path.{◌≡◌, refl, sym, ap, subst, ◌∙◌}
use mathlib.Core.Bool.{true, false, cond}
use lib.Dec.{eqb}
use mathlib.Core.List.{List, [], map, map-map}
use Prim.Native.Nat.{ℕ, ◌+◌, ◌-◌, ◌*◌, ◌^◌, ◌≤◌, ◌<◌}
use native.Mathlib.Omega.{arith}
use lib.ListN.{length, get_or, length-map, length-replicate}
use Rattle.ways.specs.Way.{way_of, sheet_size, width}
use Rattle.kept_pairs.specs.Pairs.{small}
use Rattle.refusal.specs.Judging.{kept}
use Rattle.fields.specs.Amount.{amounts}
use Rattle.sharing.specs.Polynomial.{value}
use Rattle.sharing.specs.Scheme.{threshold, points}
use Rattle.presence.specs.Presence.{marked, choose, of_present, is_present}
use Rattle.presence.proofs.Laws.{choose_map}
use Rattle.ranges.proofs.Loops.{length_from, map_from}
use Rattle.search.specs.Limit.{most_probes}
use Rattle.search.proofs.Bounds as searches
use Rattle.comparison.specs.Probe.{SheetInRange, sheet_polynomials, sheet_shares, Each}
use Rattle.round.specs.declared.Heard.{Heard}
use Rattle.record.specs.Record.{sound, ended, replied}
use Rattle.message.specs.Message.{message}
use Rattle.saying.specs.Say.{current, say_judgement}
use Rattle.message.specs.Message.{in_level}
use Rattle.message.proofs.Messages.{message_length, single_wide}
use Rattle.stepping.specs.After.{after}
use Rattle.refusal.proofs.Judging.{kept_new}
use Rattle.level_round.specs.Columns.{column}
use Rattle.level_round.proofs.Laws.{column_length}
use Rattle.round.specs.Round.{heard}
use Rattle.listening.specs.Listen.{own_words, opening, width_of}
use Rattle.heard_round.specs.Next.{heard_next}
use Rattle.hearing.specs.Hear.{hear_judgement}
use Rattle.record.proofs.Soundness.{RoundSound, Sound, sound_of}
use Rattle.saying.proofs.Laws.{InTurn, say_accepted}
use Rattle.message.proofs.Sheets.{InField, in_field_any, in_field_of, in_field_bytes}
use Rattle.saying.proofs.Sheets.{current_long}
use Rattle.round.proofs.Opened.{heard_unmarked}
use Rattle.listening.proofs.Laws.{Admitted, one_opening}
use Rattle.heard_round.proofs.Left.{one_next}
use Rattle.hearing.proofs.Hears.{hear_accepted}
use Rattle.roll.proofs.Entry.{entered_proper}
use Rattle.auction.specs.Auction.{Auction, bidders, IsAuction}
use Rattle.auction.specs.Coins.{Coins, InRange}
use Rattle.auction.specs.Call.{accepted, is_accepted, judgement}
use Rattle.auction.specs.Attendance.{Enough}
use Rattle.auction.specs.Canonical.{words, lent_for, say_by, words_by, hear_by, after_hearing}
use Rattle.auction.specs.Received.{blocks}
use Rattle.auction.proofs.Blocks.{chosen_at, blocks_length, block_at, column_blocks, one_column}
use Rattle.auction.proofs.Closed.{at_party, polynomials, full_roll, Stage, record_at, sheets_at, seat}
use Rattle.auction.proofs.Totals.{each_imp, polynomials_length}
use Rattle.auction.proofs.Sheets.{flat_length, words_long}

-- ---- one round

-- messages, each of so many words, in which the words w of those who are present stand, t + 1 or more
pub record Hearable (n width : ℕ) (w : ℕ → List ℕ) (messages present : List ℕ) : Type 0 where
  pub enough : Enough n present
  pub many : length messages ≡ n * width
  pub said : choose (marked present) (blocks width n messages) ≡ choose (marked present) (map w (points n))

-- a word of each
abbrev pub word_of : (ℕ → List ℕ) → (at j : ℕ) → ℕ
word_of w at j = get_or (w j) at 0

-- how many words are said at a stage
abbrev pub wide : Auction → Stage → ℕ
wide a σ = width (way_of a.last) σ.round

-- what a round is judged as
abbrev pub role_at : Auction → Stage → ℕ
role_at a σ = cond (eqb σ.round a.last) 33 σ.round

-- what a column of such messages opens to is what that of all words does
pub column_said : (n width : ℕ) (w : ℕ → List ℕ) (messages present : List ℕ) → Hearable n width w messages present → (round at : ℕ) → at < width
    → heard n round present (column n width at messages) ≡ heard n round present (map (word_of w at) (points n))
column_said n width w messages present H round at h =
    heard_unmarked n round present (column n width at messages) (map (word_of w at) (points n))
    (column_length n width at messages ∙ sym (length-map (points n) (word_of w at) ∙ length_from 1 n))
    (ap (of_present present) (column_blocks n width at messages h)
    ∙ choose_map (λ b. get_or b at 0) (marked present) (blocks width n messages)
    ∙ ap (map (λ b. get_or b at 0)) H.said
    ∙ sym (choose_map (λ b. get_or b at 0) (marked present) (map w (points n)))
    ∙ ap (of_present present) (map-map (λ b. get_or b at 0) w (points n)))

-- from the stage σ all say the words w, which open to o, and are then at the stage τ
pub record Step (a : Auction) (c : Coins) (σ τ : Stage) (w : ℕ → List ℕ) (o : Heard) : Type 0 where
  pub going : (j : ℕ) → ended (record_at a c σ j) ≡ false
  pub saying : (j : ℕ) → 1 ≤ j → j ≤ a.n → accepted (say_by (seat a c σ j)) ≡ true
  pub words : (j : ℕ) → 1 ≤ j → j ≤ a.n → words_by (seat a c σ j) ≡ w j
  pub long : (j : ℕ) → 1 ≤ j → j ≤ a.n → length (w j) ≡ wide a σ
  pub opens : (messages present : List ℕ) → Hearable a.n (wide a σ) w messages present
      → (j : ℕ) → 1 ≤ j → j ≤ a.n → opening (record_at a c σ j) present messages ≡ o
  pub hearing : (messages present : List ℕ) → Hearable a.n (wide a σ) w messages present
      → (j : ℕ) → 1 ≤ j → j ≤ a.n → accepted (hear_by messages present (seat a c σ j)) ≡ true
  pub next : (messages present : List ℕ) → Hearable a.n (wide a σ) w messages present
      → (j : ℕ) → 1 ≤ j → j ≤ a.n → after_hearing messages present (seat a c σ j) ≡ seat a c τ j

-- a stage whose records are sound
pub record Sane (a : Auction) (σ : Stage) : Type 0 where
  pub search : searches.Sound a.k σ.search
  pub round : RoundSound σ.search a.last σ.round
  pub sum : σ.sum < 2 ^ 59 + 2 ^ 33
  pub carry : (j : ℕ) → 1 ≤ j → j ≤ a.n → σ.carry j ≤ 255
  pub pairs : (j : ℕ) → 1 ≤ j → j ≤ a.n → small (record { words = σ.pairs j }) ≡ true
  pub totals : (σ.demand < 2 ^ 32) × (σ.supply ≤ σ.demand)

-- one at which the session goes on, each party with these words of its current sheet
pub record Placed (a : Auction) (c : Coins) (σ : Stage) (sheet : ℕ → List ℕ) : Type 0 where
  pub sane : Sane a σ
  pub going : (j : ℕ) → ended (record_at a c σ j) ≡ false
  pub current_is : (j : ℕ) → current (record_at a c σ j) (sheets_at a c j) ≡ sheet j
  pub in_field : (j : ℕ) → 1 ≤ j → j ≤ a.n → InField (record_at a c σ j) true (at_party j (polynomials a c)) (sheet j)

-- ---- soundness

module _ (a : Auction) (c : Coins) (A : IsAuction a) (σ : Stage) (N : Sane a σ) (j : ℕ) (j1 : 1 ≤ j) (jn : j ≤ a.n) where
  facts_at : Sound (record_at a c σ j)
  unfolding record_at full_roll
  facts_at =
      record {
        listed =
            record {
              parties_least = A.n_least;
              parties_most = A.n_most;
              own_least = j1;
              own_most = jn;
              prices_least = A.k_least;
              prices_most = A.k_most;
            };
        search = N.search;
        round = N.round;
        sum = N.sum;
        carry = N.carry j j1 jn;
        roll = entered_proper (bidders a) A.bidders;
        bids = refl;
        totals = N.totals;
        way = A.way;
        pairs = N.pairs j j1 jn;
      }

  pub sound_at : sound (record_at a c σ j) ≡ true
  sound_at = sound_of (record_at a c σ j) facts_at

-- ---- what is lent

words_length : (w : ℕ → List ℕ) (n : ℕ) → length (map w (points n)) ≡ n
words_length w n = length-map (points n) w ∙ length_from 1 n

module _ (a : Auction) (c : Coins) (A : IsAuction a) (C : InRange a c) where
  abbrev t : ℕ
  t = threshold a.n

  pub sheets_long : (j : ℕ) → Each (λ s. length (sheet_shares j (sheet_polynomials s)) ≡ sheet_size (way_of a.last)) c.sheets
  sheets_long j = each_imp (SheetInRange (way_of a.last) t) (λ s. length (sheet_shares j (sheet_polynomials s)) ≡ sheet_size (way_of a.last)) c.sheets (words_long (way_of a.last) t j) C.sheets

  pub sheets_length : (j : ℕ) → length (sheets_at a c j) ≡ sheet_size (way_of a.last) * most_probes a.k
  unfolding sheets_at
  sheets_length j =
      flat_length (λ s. sheet_shares j (sheet_polynomials s)) (sheet_size (way_of a.last)) c.sheets (sheets_long j) ∙ ap (λ (m : ℕ). sheet_size (way_of a.last) * m) C.sheets_many

  pub totals_length : (j : ℕ) → length (at_party j (polynomials a c)) ≡ 2 * a.k
  totals_length j = length-map (polynomials a c) (λ f. value amounts f j) ∙ polynomials_length A C

  -- ---- at a stage

  module _ (σ : Stage) (sheet : ℕ → List ℕ) (P : Placed a c σ sheet) where
    module _ (j : ℕ) (j1 : 1 ≤ j) (jn : j ≤ a.n) where
      abbrev totals : List ℕ
      totals = at_party j (polynomials a c)

      current_at : current (record_at a c σ j) (sheets_at a c j) ≡ sheet j
      current_at = P.current_is j

      turn_at : InTurn (record_at a c σ j) totals (sheets_at a c j)
      unfolding record_at
      turn_at =
          record {
            sound = facts_at a c A σ P.sane j j1 jn;
            totals_long = totals_length j;
            sheets_long = sheets_length j;
            going = P.going j;
          }

      abbrev lent : List ℕ
      lent = lent_for (record_at a c σ j)

      say_ok : say_judgement (record_at a c σ j) totals (sheets_at a c j) lent ≡ Ok tt
      say_ok =
          say_accepted _ _ _ _
          (record { turn = turn_at; said_long = length-replicate {A = ℕ} (width_of (record_at a c σ j)) 0; in_field = rw current_at (P.in_field j j1 jn) })

      pub saying_at : accepted (say_by (seat a c σ j)) ≡ true
      unfolding say_by seat judgement is_accepted
      saying_at = rw say_ok

      pub word_at : words_by (seat a c σ j) ≡ message (record_at a c σ j) totals (sheet j)
      unfolding words_by seat words
      word_at = kept_new _ _ lent say_ok ∙ ap (message (record_at a c σ j) totals) current_at

      -- as many words as the round has
      long_at : length (message (record_at a c σ j) totals (sheet j)) ≡ wide a σ
      unfolding record_at
      long_at =
          message_length (record_at a c σ j) totals (sheet j) (facts_at a c A σ P.sane j j1 jn)
          (ap length (sym current_at) ∙ current_long (record_at a c σ j) (facts_at a c A σ P.sane j j1 jn) (P.going j) (sheets_at a c j) (sheets_length j))
          (in_field_bytes (record_at a c σ j) true totals (sheet j) (in_field_of (record_at a c σ j) true totals (sheet j) (P.in_field j j1 jn)))

      -- hearing words, its own among them if it is present, that open to o
      module _ (w : ℕ → List ℕ) (o : Heard) (messages present : List ℕ) (H : Hearable a.n (wide a σ) w messages present)
          (own : w j ≡ message (record_at a c σ j) totals (sheet j))
          (opens : opening (record_at a c σ j) present messages ≡ o)
          (allowed : Admitted σ.round σ.demand σ.supply o) where
        own_word : is_present present j ≡ true → own_words (record_at a c σ j) messages ≡ w j
        unfolding record_at
        own_word here =
            sym (block_at (wide a σ) a.n messages (j - 1) (omega arith))
            ∙ chosen_at [] present (blocks (wide a σ) a.n messages) (map w (points a.n)) (j - 1)
            (blocks_length (wide a σ) a.n messages ∙ sym (words_length w a.n)) H.said here
            ∙ map_from w [] 1 a.n (j - 1) (omega arith) ∙ ap w (omega arith)

        hear_ok : hear_judgement (record_at a c σ j) totals (sheets_at a c j) messages present ≡ Ok tt
        unfolding record_at
        hear_ok =
            hear_accepted (record_at a c σ j) totals (sheets_at a c j) messages present
            (record {
              turn = turn_at;
              marks = H.enough.marks;
              many = H.many;
              marks_many = H.enough.long;
              enough = H.enough.many;
              in_field = rw current_at (in_field_any _ _ _ _ (P.in_field j j1 jn));
              own = λ here. own_word here ∙ own ∙ sym (ap (message (record_at a c σ j) totals) current_at);
              opening = subst (Admitted σ.round σ.demand σ.supply) (sym opens) allowed;
            })

        pub hearing_at : accepted (hear_by messages present (seat a c σ j)) ≡ true
        unfolding hear_by seat judgement is_accepted
        hearing_at = rw hear_ok

        pub next_at : (τ : Stage) → heard_next (record_at a c σ j) (sheet j) messages present ≡ record_at a c τ j
            → after_hearing messages present (seat a c σ j) ≡ seat a c τ j
        unfolding after_hearing seat replied kept
        next_at τ e = rw (hear_ok, current_at, e)

    -- the whole round
    pub step_of : (τ : Stage) (w : ℕ → List ℕ) (o : Heard)
        → ((j : ℕ) → 1 ≤ j → j ≤ a.n → message (record_at a c σ j) (at_party j (polynomials a c)) (sheet j) ≡ w j)
        → ((messages present : List ℕ) → Hearable a.n (wide a σ) w messages present
        → (j : ℕ) → 1 ≤ j → j ≤ a.n → opening (record_at a c σ j) present messages ≡ o)
        → Admitted σ.round σ.demand σ.supply o
        → ((messages present : List ℕ) → Hearable a.n (wide a σ) w messages present
        → (j : ℕ) → 1 ≤ j → j ≤ a.n → heard_next (record_at a c σ j) (sheet j) messages present ≡ record_at a c τ j)
        → Step a c σ τ w o
    step_of τ w o says opens allowed turns =
        record {
          going = P.going;
          saying = saying_at;
          words = λ j j1 jn. word_at j j1 jn ∙ says j j1 jn;
          long = λ j j1 jn. ap length (sym (says j j1 jn)) ∙ long_at j j1 jn;
          opens = opens;
          hearing = λ messages present H j j1 jn.
              hearing_at j j1 jn w o messages present H (sym (says j j1 jn)) (opens messages present H j j1 jn) allowed;
          next = λ messages present H j j1 jn.
              next_at j j1 jn w o messages present H (sym (says j j1 jn)) (opens messages present H j j1 jn) allowed τ (turns messages present H j j1 jn);
        }

    -- ---- a round of one word

    module _ (not_level : (j : ℕ) → in_level (record_at a c σ j) ≡ false) where
      one_wide : wide a σ ≡ 1
      unfolding record_at
      one_wide = single_wide (record_at a c σ 0) (not_level 0)

      as_column : (w : ℕ → List ℕ) (messages present : List ℕ) → Hearable a.n (wide a σ) w messages present → (round : ℕ)
          → heard a.n round present messages ≡ heard a.n round present (map (word_of w 0) (points a.n))
      as_column w messages present H round =
          let l : length messages ≡ a.n = H.many ∙ ap (λ (k : ℕ). a.n * k) one_wide ∙ omega arith in
          ap (heard a.n round present) (sym (one_column a.n messages l) ∙ ap (λ (k : ℕ). column a.n k 0 messages) (sym one_wide))
          ∙ column_said a.n (wide a σ) w messages present H round 0 (omega (arith, one_wide))

      pub single_step : (τ : Stage) (w : ℕ → List ℕ) (o : Heard)
          → ((j : ℕ) → 1 ≤ j → j ≤ a.n → message (record_at a c σ j) (at_party j (polynomials a c)) (sheet j) ≡ w j)
          → ((present : List ℕ) → Enough a.n present → heard a.n (role_at a σ) present (map (word_of w 0) (points a.n)) ≡ o)
          → Admitted σ.round σ.demand σ.supply o
          → ((j : ℕ) → 1 ≤ j → j ≤ a.n → after (record_at a c σ j) (sheet j) o ≡ record_at a c τ j)
          → Step a c σ τ w o
      unfolding record_at
      single_step τ w o says opens allowed turns =
          let seen : (messages present : List ℕ) → Hearable a.n (wide a σ) w messages present → heard a.n (role_at a σ) present messages ≡ o =
          λ messages present H. as_column w messages present H (role_at a σ) ∙ opens present H.enough in
          step_of τ w o says
          (λ messages present H j j1 jn. one_opening (record_at a c σ j) messages present (not_level j) ∙ seen messages present H) allowed
          (λ messages present H j j1 jn.
          one_next (record_at a c σ j) (sheet j) messages present (not_level j)
          ∙ ap (after (record_at a c σ j) (sheet j)) (seen messages present H) ∙ turns j j1 jn)
