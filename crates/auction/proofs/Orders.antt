-- What is read off any run is what is read off the canonical list; and which changes of a list keep it a run. Assumes nothing.
use mathlib.Core.Path.{◌≡◌, refl, sym, ap, ap₂, subst, ◌∙◌}
use mathlib.Core.Logic.{◌↔◌, ◌⊎◌, inl, inr, ⊎_elim}
use mathlib.Core.Bool.{Bool, true, false, ◌&&◌, true≢false}
use mathlib.Core.List.Memᴰ
use mathlib.Core.List.{List, [], ◌∷◌, ◌++◌, head-eq_of_cons-eq, tail-eq_of_cons-eq, cons≢nil, Memᴰ}
use mathlib.Core.Option.{Option, none, some}
use Prim.Native.Nat.{ℕ, suc, ◌*◌, ◌≤◌}
use native.Mathlib.Omega.{arith}
use lib.ListN.{length, replicate, length-replicate}
use borrow.Author.Tests.{eqb-true}
use Rattle.bid.specs.Entry.{split_entry_left, entry_coins, entries_left}
use Rattle.ranges.specs.Lists.{from}
use Rattle.ranges.specs.Orders.{Shuffle}
use Rattle.ranges.proofs.Orders.{shuffle_swap, shuffle_refl}
use Rattle.ranges.proofs.Loops.{and_false}
use Rattle.record.specs.declared.Party.{Party}
use Rattle.sharing.specs.Scheme.{threshold}
use Rattle.auction.specs.Auction.{Auction}
use Rattle.auction.specs.Coins.{Coins}
use Rattle.auction.specs.Desk.{by_entries, Desk, Complete}
use Rattle.auction.specs.Attendance.{Marks, Attendance, Attends}
use Rattle.auction.specs.Call.{Call, split_entry_call, say_call, answer_call, fill_call, accepted, Whose, party, service, fleet, whose, of_party, of_service, of_fleet, given}
use Rattle.auction.specs.Canonical.{entry_calls, canonical}
use Rattle.auction.specs.Run.{Run, Repeats, select, own, services, fills}
use Rattle.auction.specs.Received.{collect, bid_in, Saying, saying_in, hearing_in, asking_in, received_bids, sayings, hearings, askings}
use Rattle.auction.proofs.Selected.{with_call, select_cons, select_skip}
use Rattle.auction.proofs.Calls.{select_append, with_read, read_more}
use Rattle.auction.proofs.Repeats.{repeats_refl, repeats_say, repeats_ask, repeats_none}
use Rattle.auction.proofs.Elsewhere.{none_told}
use Rattle.auction.proofs.Fleets.{no_fills}

-- ---- the canonical list is a run

unfoldable pub canonical_run : (a : Auction) (c : Coins) (marks : Marks) (desk : Desk) → Complete a.k desk → (att : Attendance) → Attends a marks att
    → Run a c marks (canonical a c marks desk att)
canonical_run a c marks desk D att T =
    record {
      desk = desk;
      complete = D;
      attendance = att;
      attends = T;
      parties = λ j. repeats_refl (own j (canonical a c marks desk att));
      others = shuffle_refl (services (canonical a c marks desk att));
      fleets = λ q amount m. absurd (Memᴰ.not-nil (subst (Memᴰ (fill_call q amount)) (no_fills a c marks desk att) m));
    }

-- each of its entries in turn, or in any order, on any slice: so is a bundle written in some run
pub some_entries : (k : ℕ) (order lent : List ℕ) → Shuffle (from 1 (2 * k)) order → length lent ≡ 2 * k → Complete k (λ bidder own. by_entries order lent)
some_entries k order lent s l bidder own = (s, l)

pub entries_in_turn : (k : ℕ) → Complete k (λ bidder own. by_entries (from 1 (2 * k)) (replicate (2 * k) 0))
entries_in_turn k = some_entries k (from 1 (2 * k)) (replicate (2 * k) 0) (shuffle_refl (from 1 (2 * k))) (length-replicate (2 * k) 0)

-- each call for an entry is lent what those before it left
pub lent_in_turn : (a : Auction) (own : ℕ) (table coins before after lent : List ℕ)
    → entry_calls a own table coins (before ++ after) lent
    ≡ entry_calls a own table coins before lent ++ entry_calls a own table coins after (entries_left a.n own a.k table coins before lent)
unfolding entry_calls entries_left
lent_in_turn a own table coins [] after lent = refl
lent_in_turn a own table coins (e ∷ before) after lent =
    ap (λ (cs : List Call). split_entry_call a.n own a.k e table (entry_coins (threshold a.n) e coins) lent ∷ cs)
    (lent_in_turn a own table coins before after (split_entry_left a.n own a.k e table (entry_coins (threshold a.n) e coins) lent))

-- ---- what is read off a run

-- a reader that passes over sayings and askings
module _ {B : Type 0} (f : Call → Option B) (no_say : (q : Party) (t s d : List ℕ) → f (say_call q t s d) ≡ none)
    (no_ask : (q : Party) → f (answer_call q) ≡ none) where
  same_reading : {cs ds : List Call} → Repeats cs ds → collect f ds ≡ collect f cs
  unfolding collect
  same_reading Repeats.end = refl
  same_reading (Repeats.next {c} h) = ap (with_read (f c)) (same_reading h)
  same_reading (Repeats.say_again {q} {totals = t} {sheets = s} {said = d} {ds} h) = ap (λ o. with_read o (collect f ds)) (no_say q t s d) ∙ same_reading h
  same_reading (Repeats.ask_again {q} {ds} h) = ap (λ o. with_read o (collect f ds)) (no_ask q) ∙ same_reading h

-- the canonical list of a run
abbrev pub told : {a : Auction} {c : Coins} {marks : Marks} {l : List Call} → Run a c marks l → List Call
told {a} {c} {marks} run = canonical a c marks run.desk run.attendance

module _ (a : Auction) (c : Coins) (marks : Marks) (l : List Call) (run : Run a c marks l) (j : ℕ) where
  pub run_bids : received_bids j l ≡ received_bids j (told run)
  unfolding bid_in
  run_bids = same_reading bid_in (λ q t s d. refl) (λ q. refl) (run.parties j)

  pub run_hearings : hearings j l ≡ hearings j (told run)
  unfolding hearing_in
  run_hearings = same_reading hearing_in (λ q t s d. refl) (λ q. refl) (run.parties j)

-- ---- sayings repeated

-- what is said is said in the canonical list, and what is said there is said
module _ {B : Type 0} (f : Call → Option B) (x : B) where
  read_in : (o : Option B) (xs ys : List B) → (Memᴰ x ys → Memᴰ x xs) → Memᴰ x (with_read o ys) → Memᴰ x (with_read o xs)
  read_in none xs ys g m = g m
  read_in (some y) xs ys g m = ⊎_elim (λ e. Memᴰ.head e) (λ m'. Memᴰ.tail (g m')) (Memᴰ.cases_cons m)

  -- of a call that is repeated
  read_once : (o : Option B) (xs ys : List B) → (Memᴰ x ys → Memᴰ x (with_read o xs)) → Memᴰ x (with_read o ys) → Memᴰ x (with_read o xs)
  read_once none xs ys g m = g m
  read_once (some y) xs ys g m = ⊎_elim (λ e. Memᴰ.head e) g (Memᴰ.cases_cons m)

  only_said : {cs ds : List Call} → Repeats cs ds → Memᴰ x (collect f ds) → Memᴰ x (collect f cs)
  unfolding collect
  only_said Repeats.end m = m
  only_said (Repeats.next {c} {cs} {ds} h) m = read_in (f c) (collect f cs) (collect f ds) (λ m'. only_said h m') m
  only_said (Repeats.say_again {q} {totals} {sheets} {said} {cs} {ds} h) m =
      read_once (f (say_call q totals sheets said)) (collect f cs) (collect f ds) (λ m'. only_said h m') m
  only_said (Repeats.ask_again {q} {cs} {ds} h) m = read_once (f (answer_call q)) (collect f cs) (collect f ds) (λ m'. only_said h m') m

  all_said : {cs ds : List Call} → Repeats cs ds → Memᴰ x (collect f cs) → Memᴰ x (collect f ds)
  unfolding collect
  all_said Repeats.end m = m
  all_said (Repeats.next {c} {cs} {ds} h) m = read_in (f c) (collect f ds) (collect f cs) (λ m'. all_said h m') m
  all_said (Repeats.say_again {q} {totals} {sheets} {said} {ds} h) m = read_more x (f (say_call q totals sheets said)) (collect f ds) (all_said h m)
  all_said (Repeats.ask_again {q} {ds} h) m = read_more x (f (answer_call q)) (collect f ds) (all_said h m)

module _ (a : Auction) (c : Coins) (marks : Marks) (l : List Call) (run : Run a c marks l) (j : ℕ) (x : Saying) where
  pub run_sayings : Memᴰ x (sayings j l) → Memᴰ x (sayings j (told run))
  run_sayings = only_said saying_in x (run.parties j)

  pub run_says : Memᴰ x (sayings j (told run)) → Memᴰ x (sayings j l)
  run_says = all_said saying_in x (run.parties j)

-- ---- askings repeated

-- x once or more
abbrev Again : {B : Type 0} → B → List B → Type 0
Again x ys = (m : ℕ) × (ys ≡ replicate (suc m) x)

module _ {B : Type 0} where
  read_none : (o : Option B) (xs ys : List B) → (xs ≡ [] → ys ≡ []) → with_read o xs ≡ [] → with_read o ys ≡ []
  read_none none xs ys f e = f e
  read_none (some y) xs ys f e = absurd (cons≢nil e)

  read_one : (o : Option B) (x : B) (xs ys : List B) → (xs ≡ [] → ys ≡ []) → (xs ≡ x ∷ [] → Again x ys)
      → with_read o xs ≡ x ∷ [] → Again x (with_read o ys)
  read_one none x xs ys f g e = g e
  read_one (some y) x xs ys f g e = (0, ap₂ (λ h t. h ∷ t) (head-eq_of_cons-eq e) (f (tail-eq_of_cons-eq e)))

no_askings : {cs ds : List Call} → Repeats cs ds → collect asking_in cs ≡ [] → collect asking_in ds ≡ []
unfolding collect asking_in
no_askings Repeats.end e = e
no_askings (Repeats.next {c} {cs} {ds} h) e = read_none (asking_in c) (collect asking_in cs) (collect asking_in ds) (no_askings h) e
no_askings (Repeats.say_again h) e = no_askings h e
no_askings (Repeats.ask_again h) e = absurd (cons≢nil e)

more_askings : {cs ds : List Call} → Repeats cs ds → (x : Party) → collect asking_in cs ≡ x ∷ [] → Again x (collect asking_in ds)
unfolding collect asking_in
more_askings Repeats.end x e = (0, e)
more_askings (Repeats.next {c} {cs} {ds} h) x e =
    read_one (asking_in c) x (collect asking_in cs) (collect asking_in ds) (no_askings h) (more_askings h x) e
more_askings (Repeats.say_again h) x e = more_askings h x e
more_askings (Repeats.ask_again h) x e =
    let w = more_askings h x e in
    (suc w.0, ap₂ (λ y ys. y ∷ ys) (head-eq_of_cons-eq e) w.1)

-- a party that asks once in the canonical list asks once or more with the same record, and one that does not asks never
module _ (a : Auction) (c : Coins) (marks : Marks) (l : List Call) (run : Run a c marks l) (j : ℕ) where
  pub run_askings : (x : Party) → askings j (told run) ≡ x ∷ [] → (m : ℕ) × (askings j l ≡ replicate (suc m) x)
  run_askings x e = more_askings (run.parties j) x e

  pub run_asks_not : askings j (told run) ≡ [] → askings j l ≡ []
  run_asks_not e = no_askings (run.parties j) e

-- ---- parties that there are not

pub run_none_else : (a : Auction) (c : Coins) (marks : Marks) (l : List Call) → Run a c marks l → (j : ℕ) → (1 ≤ j → j ≤ a.n → ⊥) → own j l ≡ []
run_none_else a c marks l run j outside = repeats_none (rw (none_told j a c marks run.desk run.attendance outside) at (run.parties j))

-- another list is a run too, with the bundles written in the same ways and the same attendance
with_calls : {a : Auction} {c : Coins} {marks : Marks} {l m : List Call} (r : Run a c marks l) → ((j : ℕ) → Repeats (own j (told r)) (own j m))
    → Shuffle (services (told r)) (services m) → ((x : Call) → Memᴰ x (fills m) → Memᴰ x (fills l)) → Run a c marks m
with_calls r parties others fewer =
    record {
      desk = r.desk;
      complete = r.complete;
      attendance = r.attendance;
      attends = r.attends;
      parties = parties;
      others = others;
      fleets = λ q amount m. r.fleets q amount (fewer (fill_call q amount) m);
    }

-- the tests that tell whose calls are taken
abbrev owned : ℕ → Call → Bool
owned j x = accepted x && of_party j (whose x)

abbrev served : Call → Bool
served x = accepted x && of_service (whose x)

abbrev asked : Call → Bool
asked x = accepted x && of_fleet (whose x)

-- ---- refused calls anywhere

module _ (x : Call) (refused : accepted x ≡ false) (l m : List Call) where
  own_skip : (j : ℕ) → own j (l ++ m) ≡ own j (l ++ (x ∷ m))
  own_skip j = select_skip (owned j) x (ap (λ b. b && of_party j (whose x)) refused) l m

  services_skip : services (l ++ m) ≡ services (l ++ (x ∷ m))
  services_skip = select_skip served x (ap (λ b. b && of_service (whose x)) refused) l m

  fills_skip : fills (l ++ m) ≡ fills (l ++ (x ∷ m))
  fills_skip = select_skip asked x (ap (λ b. b && of_fleet (whose x)) refused) l m

pub refusals_anywhere : (a : Auction) (c : Coins) (marks : Marks) (x : Call) → accepted x ≡ false → (l m : List Call)
    → Run a c marks (l ++ m) ↔ Run a c marks (l ++ (x ∷ m))
refusals_anywhere a c marks x e l m = (
  (λ r. with_calls r (λ j. rw (own_skip x e l m j) at (r.parties j)) (rw (services_skip x e l m) at r.others) (λ y. subst (Memᴰ y) (sym (fills_skip x e l m)))),
  (λ r. with_calls r (λ j. rw (own_skip x e l m j) (r.parties j)) (rw (services_skip x e l m) r.others) (λ y. subst (Memᴰ y) (fills_skip x e l m))),
)

-- ---- neighbours change places

-- of two calls at most one is taken
with_apart : (s t : Bool) (x y : Call) (cs : List Call) → (s ≡ true → t ≡ true → ⊥)
    → with_call s x (with_call t y cs) ≡ with_call t y (with_call s x cs)
with_apart true true x y cs h = absurd (h refl refl)
with_apart true false x y cs h = refl
with_apart false t x y cs h = refl

-- both, one or none is taken
with_both : (s t : Bool) (x y : Call) (cs ds es : List Call)
    → Shuffle cs (ds ++ with_call s x (with_call t y es)) → Shuffle cs (ds ++ with_call t y (with_call s x es))
with_both true true x y cs ds es h = shuffle_swap cs (given x) (given y) ds es h
with_both true false x y cs ds es h = h
with_both false t x y cs ds es h = h

-- in either order the same are taken
with_taken : (s t : Bool) (x y : Call) (cs : List Call) (z : Call) → Memᴰ z (with_call s x (with_call t y cs)) → Memᴰ z (with_call t y (with_call s x cs))
with_taken true true x y cs z h =
    ⊎_elim (λ e. Memᴰ.tail (Memᴰ.head e)) (λ h'. ⊎_elim (λ e. Memᴰ.head e) (λ m. Memᴰ.tail (Memᴰ.tail m)) (Memᴰ.cases_cons h'))
    (Memᴰ.cases_cons h)
with_taken true false x y cs z h = h
with_taken false t x y cs z h = h

in_either : (l : List Call) (z : Call) {cs ds : List Call} → (Memᴰ z cs → Memᴰ z ds) → Memᴰ z (l ++ cs) → Memᴰ z (l ++ ds)
in_either [] z f h = f h
in_either (x ∷ l) z f h = ⊎_elim (λ e. Memᴰ.head e) (λ m. Memᴰ.tail (in_either l z f m)) (Memᴰ.cases_cons h)

mine : (j : ℕ) (w : Whose) (b : Bool) → b && of_party j w ≡ true → w ≡ party j
unfolding of_party
mine j (party i) true e = ap party (eqb-true i j e)
mine j (party i) false e = absurd (true≢false (sym e))
mine j service true e = absurd (true≢false (sym e))
mine j service false e = absurd (true≢false (sym e))
mine j fleet true e = absurd (true≢false (sym e))
mine j fleet false e = absurd (true≢false (sym e))

-- two calls, and one, between l and m
module _ (test : Call → Bool) (l m : List Call) where
  select_two : (x y : Call) → select test (l ++ (x ∷ y ∷ m)) ≡ select test l ++ with_call (test x) x (with_call (test y) y (select test m))
  select_two x y = simp (select_append, select_cons)

  select_one : (x : Call) → select test (l ++ (x ∷ m)) ≡ select test l ++ with_call (test x) x (select test m)
  select_one x = simp (select_append, select_cons)

module _ (x y : Call) (l m : List Call) where
  own_swap : (j : ℕ) → (whose x ≡ party j → whose y ≡ party j → ⊥) → own j (l ++ (x ∷ y ∷ m)) ≡ own j (l ++ (y ∷ x ∷ m))
  own_swap j apart =
      select_two (owned j) l m x y
      ∙ ap (λ cs. own j l ++ cs) (with_apart (owned j x) (owned j y) x y (own j m) (λ s t. apart (mine j (whose x) (accepted x) s) (mine j (whose y) (accepted y) t)))
      ∙ sym (select_two (owned j) l m y x)

  services_swap : (cs : List Call) → Shuffle cs (services (l ++ (x ∷ y ∷ m))) → Shuffle cs (services (l ++ (y ∷ x ∷ m)))
  services_swap cs h =
      rw (select_two served l m y x) (with_both (served x) (served y) x y cs (services l) (services m) (rw (select_two served l m x y) at h))

  -- the same fleets ask
  fills_swap : (z : Call) → Memᴰ z (fills (l ++ (y ∷ x ∷ m))) → Memᴰ z (fills (l ++ (x ∷ y ∷ m)))
  fills_swap z h =
      subst (Memᴰ z) (sym (select_two asked l m x y))
      (in_either (fills l) z (with_taken (asked y) (asked x) y x (fills m) z) (subst (Memᴰ z) (select_two asked l m y x) h))

-- two neighbours that are no calls of the same party
pub swap_parties : (a : Auction) (c : Coins) (marks : Marks) (x y : Call) (l m : List Call) → ((j : ℕ) → whose x ≡ party j → whose y ≡ party j → ⊥)
    → Run a c marks (l ++ (x ∷ y ∷ m)) → Run a c marks (l ++ (y ∷ x ∷ m))
swap_parties a c marks x y l m apart r =
    with_calls r (λ j. rw (own_swap x y l m j (apart j)) at (r.parties j)) (services_swap x y l m (services (told r)) r.others) (fills_swap x y l m)

-- two neighbours of the bidders and the dealer
pub swap_services : (a : Auction) (c : Coins) (marks : Marks) (x y : Call) (l m : List Call) → whose x ≡ service → whose y ≡ service
    → Run a c marks (l ++ (x ∷ y ∷ m)) → Run a c marks (l ++ (y ∷ x ∷ m))
swap_services a c marks x y l m p q r = swap_parties a c marks x y l m (λ j e f. let z : ◌≡◌ {A = ℕ} 0 1 = cc in omega arith) r

-- ---- a saying or an asking twice

-- a party's own call is no service and no fleet's, refused or not
not_served : (i : ℕ) (w : Whose) (b : Bool) → w ≡ party i → b && of_service w ≡ false
unfolding of_service
not_served i w b e = and_false b (of_service w) (ap of_service e)

not_asked : (i : ℕ) (w : Whose) (b : Bool) → w ≡ party i → b && of_fleet w ≡ false
unfolding of_fleet
not_asked i w b e = and_false b (of_fleet w) (ap of_fleet e)

module _ (a : Auction) (c : Coins) (marks : Marks) (x : Call) (l m : List Call)
    (doubles : (cs ds es : List Call) → Repeats cs (ds ++ (given x ∷ es)) → Repeats cs (ds ++ (given x ∷ given x ∷ es))) where
  with_twice : (b : Bool) (cs ds es : List Call) → Repeats cs (ds ++ with_call b x es) → Repeats cs (ds ++ with_call b x (with_call b x es))
  with_twice true cs ds es h = doubles cs ds es h
  with_twice false cs ds es h = h

  twice : (i : ℕ) → whose x ≡ party i → Run a c marks (l ++ (x ∷ m)) → Run a c marks (l ++ (x ∷ x ∷ m))
  twice i e r =
      with_calls r
      (λ j.
      rw (select_two (owned j) l m x x)
      (with_twice (owned j x) (own j (told r)) (own j l) (own j m) (rw (select_one (owned j) l m x) at (r.parties j))))
      (rw (select_skip served x (not_served i (whose x) (accepted x) e) l (x ∷ m)) at r.others)
      (λ z. subst (Memᴰ z) (sym (select_skip asked x (not_asked i (whose x) (accepted x) e) l (x ∷ m))))

-- accepted or not
pub say_twice : (a : Auction) (c : Coins) (marks : Marks) (q : Party) (t s d : List ℕ) (l m : List Call)
    → Run a c marks (l ++ (say_call q t s d ∷ m)) → Run a c marks (l ++ (say_call q t s d ∷ say_call q t s d ∷ m))
unfolding whose given
say_twice a c marks q t s d l m r = twice a c marks (say_call q t s d) l m (λ cs ds es. repeats_say cs q t s [] ds es) q.own refl r

pub ask_twice : (a : Auction) (c : Coins) (marks : Marks) (q : Party) (l m : List Call)
    → Run a c marks (l ++ (answer_call q ∷ m)) → Run a c marks (l ++ (answer_call q ∷ answer_call q ∷ m))
unfolding whose given
ask_twice a c marks q l m r = twice a c marks (answer_call q) l m (λ cs ds es. repeats_ask cs q ds es) q.own refl r

-- ---- a fleet asks for its hours

-- one that is taken is there, or the others are
one_taken : (s : Bool) (x z : Call) (l cs : List Call) → Memᴰ z (l ++ with_call s x cs) → (z ≡ given x) ⊎ Memᴰ z (l ++ cs)
one_taken true x z [] cs h = Memᴰ.cases_cons h
one_taken false x z [] cs h = inr h
one_taken s x z (y ∷ l) cs h = go (one_taken s x z l cs) (Memᴰ.cases_cons h)
  where
    go : (Memᴰ z (l ++ with_call s x cs) → (z ≡ given x) ⊎ Memᴰ z (l ++ cs)) → (z ≡ y) ⊎ Memᴰ z (l ++ with_call s x cs)
        → (z ≡ given x) ⊎ Memᴰ z (y ∷ (l ++ cs))
    go rest (inl e) = inr (Memᴰ.head e)
    go rest (inr k) = ⊎_elim (λ e. inl e) (λ m. inr (Memᴰ.tail m)) (rest k)

-- with a record that a party asks with, it may stand anywhere, accepted or not
pub fills_anywhere : (a : Auction) (c : Coins) (marks : Marks) (q : Party) (amount : ℕ) (l m : List Call) (r : Run a c marks (l ++ m))
    → (j : ℕ) → Memᴰ (answer_call q) (own j (told r)) → Run a c marks (l ++ (fill_call q amount ∷ m))
unfolding whose of_party of_service given
fills_anywhere a c marks q amount l m r j asks =
    let x : Call = fill_call q amount in
    record {
      desk = r.desk;
      complete = r.complete;
      attendance = r.attendance;
      attends = r.attends;
      parties = λ i. rw (select_skip (owned i) x (and_false (accepted x) _ refl) l m) at (r.parties i);
      others = rw (select_skip served x (and_false (accepted x) _ refl) l m) at r.others;
      fleets = λ p amount' h.
          ⊎_elim
          (λ e. let same : q ≡ p = cc in (j, subst (λ (z : Party). Memᴰ (answer_call z) (own j (told r))) same asks))
          (λ k. r.fleets p amount' (subst (Memᴰ (fill_call p amount')) (sym (select_append asked l m)) k))
          (one_taken (asked x) x (fill_call p amount') (fills l) (fills m) (subst (Memᴰ (fill_call p amount')) (select_one asked l m x) h));
    }
