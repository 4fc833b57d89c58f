-- The entries of a list of calls, run one after another: what one more call leaves, and that nothing is left where the loop ends.
-- By what is left: the calls from entry i on, whose texts begin at `from`.
use Rattle.std.specs.Prelude.{ℕ, ◌+◌, ◌*◌, ◌/◌, ◌<◌, ◌≤◌, ◌≡◌, refl, Bool, true, false, ◌&&◌, List, [], ◌∷◌, ◌++◌, get_or, drop, ltb, leb, Result, Ok, Err}
use Rattle.std.specs.Result.{result_unwrap_or}
use Rattle.std.proofs.Common.{arith, add-one, ◌∙◌, append_assoc, append-nil, drop-drop, take_at, drop_at, take_all}
use Rattle.std.proofs.Math.Path.{ap, sym, subst}
use Rattle.std.proofs.Math.ListN.{get_or-eq_default, length, take, length-append, length-drop, drop_of_length-le}
use Rattle.std.proofs.Math.Seq.{drop-cons}
use borrow.Author.Tests.{ltb-true, ltb-false, leb-true}
use Rattle.lists.specs.Lists.{each}
use Rattle.lists.specs.Buffers.{at_front, WritesFrom}
use Rattle.lists.proofs.Laws.Lists.{both, each_append}
use Rattle.model.specs.Refusals.{Outcome, refused}
use Rattle.model.specs.Record.{Call, Open, Apply, Undo, Close, Report}
use Rattle.model.specs.Answers.{open_answer, apply_answer, step_answer}
use Rattle.model.specs.declared.Counts.{Counts}
use Rattle.model.specs.declared.Opened.{Opened}
use Rattle.session.specs.Sessions.{StoredSession, Stepped}
use Rattle.session.specs.Chains.{Chain, ends, goes}
use Rattle.session.specs.declared.Session.{Session}
use Rattle.demands.proofs.Demand3.{demand-3}
use Rattle.demands.proofs.Laws.Chains.{chain_runs}
use Rattle.runs.specs.declared.Kind.{Kind}
use Rattle.runs.specs.declared.Kind.TheVariants as kind
use Rattle.runs.specs.declared.UnknownKind.{UnknownKind}
use Rattle.runs.specs.Handed.{kind_count, Decodes, call_for, call_of, part, is_call, calls_from, calls_in, in_six, six_numbers, answer_room}
use Rattle.runs.specs.Runs.{Makes, Performs, Runs, goes_on, Answered, Running}
use Rattle.model.specs.declared.Refusal.{Refusal}
use Rattle.runs.specs.Laws.Answers.{six-long}

-- what it goes on for
pub record Going (kinds bounds : List ℕ) (texts room from i : ℕ) : Type 0 where
  pub kind : i < length kinds
  pub bound : i < length bounds
  pub fits : i < room
  pub entry : is_call (get_or kinds i 0) from (get_or bounds i 0) texts ≡ true
  pub starts : from ≤ get_or bounds i 0
  pub stops : get_or bounds i 0 ≤ texts

pub going : (kinds bounds : List ℕ) (texts room from i : ℕ) {r : Bool} → r ≡ goes_on kinds bounds texts room from i → r ≡ true
    → Going kinds bounds texts room from i
unfolding goes_on
going kinds bounds texts room from i e t =
    let hk = ltb i (length kinds) in
    let hb = ltb i (length bounds) in
    let hr = ltb i room in
    let end = get_or bounds i 0 in
    let known = ltb (get_or kinds i 0) kind_count in
    let (three, entry) = (both (hk && hb && hr) (is_call (get_or kinds i 0) from end texts)).0 (sym e ∙ t) in
    let (two, fits) = (both (hk && hb) hr).0 three in
    let (kind, bound) = (both hk hb).0 two in
    let (begins, inside) = (both (known && leb from end) (leb end texts)).0 entry in
    record {
      kind = ltb-true i (length kinds) kind;
      bound = ltb-true i (length bounds) bound;
      fits = ltb-true i room fits;
      entry = entry;
      starts = leb-true from end ((both known (leb from end)).0 begins).1;
      stops = leb-true end texts inside;
    }

-- the first of four tests that fails
first-fails : {P : Type 0} (a b c d : Bool) → (a ≡ false → P) → (a ≡ true → b ≡ false → P) → (c ≡ false → P)
    → (a ≡ true → b ≡ true → d ≡ false → P) → (a && b && c && d) ≡ false → P
first-fails false b c d f g h k e = f refl
first-fails true false c d f g h k e = g refl refl
first-fails true true false d f g h k e = h refl
first-fails true true true d f g h k e = k refl refl e

-- # One call
pub kind-call : (number : ℕ) (text : List ℕ) (r : Result Kind UnknownKind) → Decodes number r
    → call_for (result_unwrap_or r kind.Close) text ≡ call_of number text
unfolding call_of
kind-call number text (Ok kind.Open) e = rw (← e)
kind-call number text (Ok kind.Apply) e = rw (← e)
kind-call number text (Ok kind.Undo) e = rw (← e)
kind-call number text (Ok kind.Close) e = rw (← e)
kind-call number text (Err u) e = sym (get_or-eq_default (Open text ∷ Apply text ∷ Undo ∷ []) Close {n = number} (omega (arith, e.1)))

pub answered : {call : Call} {s t : Session} {numbers : List ℕ} {from : ℕ} {before after : List ℕ} → Performs call s numbers t
    → WritesFrom numbers from before (from + answer_room) after → Answered call s from before t after
answered {from = from} {before = before} {after = after} h w =
    record {
      answer = h.answer;
      stepped = h.stepped;
      written = subst (λ l. WritesFrom l from before (from + answer_room) after) h.numbers w;
    }

-- what is made of each answer
module _ {call : Call} {s t : Session} where
  pub made-refused : {x : Refusal} → Stepped call s (refused x) [] t → Makes call s (Err x) t
  unfolding six_numbers
  made-refused {x} h = record { answer = refused x; stepped = h; numbers = refl }

  pub made-open : {o : Opened} → Stepped call s (open_answer (Ok o)) [] t → Makes call s (Ok (o.classes ∷ o.names ∷ 0 ∷ 0 ∷ 0 ∷ [])) t
  unfolding six_numbers
  made-open {o} h = record { answer = open_answer (Ok o); stepped = h; numbers = refl }

  pub made-apply : {n : Counts} → Stepped call s (apply_answer (Ok n)) [] t
      → Makes call s (Ok (n.matchings ∷ n.added.nodes ∷ n.added.edges ∷ n.removed.nodes ∷ n.removed.edges ∷ [])) t
  unfolding six_numbers
  made-apply {n} h = record { answer = apply_answer (Ok n); stepped = h; numbers = refl }

  -- of undo and close
  pub made-step : Stepped call s (step_answer (Ok tt)) [] t → Makes call s (Ok (0 ∷ 0 ∷ 0 ∷ 0 ∷ 0 ∷ [])) t
  unfolding six_numbers
  made-step h = record { answer = step_answer (Ok tt); stepped = h; numbers = refl }

-- the numbers of an answer that is made
pub made-performs : {call : Call} {s t : Session} {r : Result (List ℕ) Refusal} {numbers : List ℕ} → Makes call s r t → numbers ≡ in_six r
    → Performs call s numbers t
made-performs h e = record { answer = h.answer; stepped = h.stepped; numbers = e ∙ h.numbers }

-- # Chains
-- one more call
chain-on : {s t u : Session} {cs : List Call} {given : List (Outcome Report)} {c : Call} {a : Outcome Report} {buffer : List ℕ}
    → Chain s cs given t → Stepped c t a buffer u → Chain s (cs ++ (c ∷ [])) (given ++ (a ∷ [])) u
chain-on ends h = goes h ends
chain-on (goes g rest) h = goes g (chain-on rest h)

-- as many answers as calls
chain-answers : {s t : Session} {cs : List Call} {given : List (Outcome Report)} → Chain s cs given t → length given ≡ length cs
chain-answers ends = refl
chain-answers (goes h rest) = rw (chain-answers rest)

-- # The room that answers take
given-long : (given : List (Outcome Report)) → length (each given six_numbers) ≡ length given * answer_room
given-long [] = refl
given-long (a ∷ given) = length-append (six_numbers a) (each given six_numbers) ∙ omega (arith, six-long a, given-long given)

-- a text goes on where it ended
front-on : (text part before : List ℕ) {from : ℕ} → length text ≡ from
    → take from (at_front text before) ++ at_front part (drop from (at_front text before)) ≡ at_front (text ++ part) before
front-on text part before {from} e =
    let behind = drop (length text) before in
    rw (take_at text behind from e, drop_at text behind from e)
    (sym (append_assoc text part (drop (length part) behind))
    ∙ ap (λ l. (text ++ part) ++ l)
    (drop-drop (length part) (length text) before ∙ ap (λ n. drop n before) (sym (length-append text part))))

-- # What is left
module _ (from : ℕ) (kinds bounds texts : List ℕ) (i : ℕ) where
  abbrev left : List Call
  left = calls_from from (drop i kinds) (drop i bounds) texts

  left-next : i < length kinds → i < length bounds → is_call (get_or kinds i 0) from (get_or bounds i 0) (length texts) ≡ true
      → left
      ≡ call_of (get_or kinds i 0) (part texts from (get_or bounds i 0)) ∷ calls_from (get_or bounds i 0) (drop (i + 1) kinds) (drop (i + 1) bounds) texts
  unfolding calls_from
  left-next hk hb e = rw (add-one i, drop-cons kinds i 0 hk, drop-cons bounds i 0 hb, e)

  no_kind : length kinds ≤ i → left ≡ []
  unfolding calls_from
  no_kind h = rw (drop_of_length-le kinds {i = i} h)

  no_bound : i < length kinds → length bounds ≤ i → left ≡ []
  unfolding calls_from
  no_bound hk h = rw (drop-cons kinds i 0 hk, drop_of_length-le bounds {i = i} h)

  no_call : i < length kinds → i < length bounds → is_call (get_or kinds i 0) from (get_or bounds i 0) (length texts) ≡ false → left ≡ []
  unfolding calls_from
  no_call hk hb e = rw (drop-cons kinds i 0 hk, drop-cons bounds i 0 hb, e)

-- # The loop
pub running-start : {s : Session} (kinds bounds texts before : List ℕ) → StoredSession s → Running s kinds bounds texts before 0 0 s before
running-start kinds bounds texts before stored =
    record { done = []; given = []; chain = ends; count = refl; rest = refl; room = omega arith; written = refl; stored = stored }

module _ {s : Session} {kinds bounds texts before : List ℕ} {i from : ℕ} {current : Session} {now : List ℕ}
    (h : Running s kinds bounds texts before i from current now) where
  front : List ℕ
  front = each h.given six_numbers

  front_long : length front ≡ i * answer_room
  unfolding front
  front_long = given-long h.given ∙ omega (arith, chain-answers h.chain, h.count)

  pub running-long : length now ≡ length before
  unfolding front
  running-long =
      ap length h.written ∙ length-append front (drop (length front) before)
      ∙ omega (arith, length-drop (length front) before, front_long, h.room)

  abbrev places : ℕ
  places = length now / answer_room

  pub running-next : Going kinds bounds (length texts) places from i
      → {t : Session} {after : List ℕ} → Answered (call_of (get_or kinds i 0) (part texts from (get_or bounds i 0))) current (i * answer_room) now t after
      → Running s kinds bounds texts before (i + 1) (get_or bounds i 0) t after
  unfolding front
  running-next g {t} {after} d =
      let call = call_of (get_or kinds i 0) (part texts from (get_or bounds i 0)) in
      let next = calls_from (get_or bounds i 0) (drop (i + 1) kinds) (drop (i + 1) bounds) texts in
      let six = six_numbers d.answer in
      let longer : each (h.given ++ (d.answer ∷ [])) six_numbers ≡ front ++ six =
      each_append h.given (d.answer ∷ []) six_numbers ∙ ap (λ l. front ++ l) (append-nil six) in
      record {
        done = h.done ++ (call ∷ []);
        given = h.given ++ (d.answer ∷ []);
        chain = chain-on h.chain d.stepped;
        count = length-append h.done (call ∷ []) ∙ omega (arith, h.count);
        rest =
            h.rest ∙ ap (λ l. h.done ++ l) (left-next from kinds bounds texts i g.kind g.bound g.entry)
            ∙ sym (append_assoc h.done (call ∷ []) next);
        room = omega (arith, running-long, g.fits);
        written =
            d.written.buffer ∙ ap (λ l. take (i * answer_room) l ++ at_front six (drop (i * answer_room) l)) h.written
            ∙ front-on front six before front_long ∙ ap (λ l. at_front l before) (sym longer);
        stored = d.stepped.stored;
      }

  -- nothing is left, or there is no room
  all_done : left from kinds bounds texts i ≡ [] → calls_in kinds bounds texts before ≡ h.done
  all_done e =
      rw (h.rest, e, append-nil h.done) (take_all (length before / answer_room) h.done (omega (arith, h.count, h.room)))

  as-many-done : places ≤ i → calls_in kinds bounds texts before ≡ h.done
  as-many-done e =
      rw h.rest
      (take_at h.done (left from kinds bounds texts i) (length before / answer_room) (omega (arith, h.count, h.room, running-long)))

  stopped : goes_on kinds bounds (length texts) places from i ≡ false → calls_in kinds bounds texts before ≡ h.done
  unfolding goes_on
  stopped =
      first-fails (ltb i (length kinds)) (ltb i (length bounds)) (ltb i places)
      (is_call (get_or kinds i 0) from (get_or bounds i 0) (length texts))
      (λ k. all_done (no_kind from kinds bounds texts i (ltb-false i (length kinds) k)))
      (λ k b. all_done (no_bound from kinds bounds texts i (ltb-true i (length kinds) k) (ltb-false i (length bounds) b)))
      (λ r. as-many-done (ltb-false i places r))
      (λ k b e. all_done (no_call from kinds bounds texts i (ltb-true i (length kinds) k) (ltb-true i (length bounds) b) e))

  -- the calls that are run are those that are done
  pub ran : {r : Bool} → r ≡ goes_on kinds bounds (length texts) places from i → r ≡ false
      → Runs s (calls_in kinds bounds texts before) before i current now
  ran e f =
      let run = stopped (sym e ∙ f) in
      let chain = subst (λ cs. Chain s cs h.given current) (sym run) h.chain in
      record {
        answers = h.given;
        equals = chain_runs chain;
        numbers = h.written;
        count = sym (ap length run ∙ h.count);
        chain = chain;
        demand = λ new. demand-3 _ _ _ _ new chain;
        stored = h.stored;
      }
