-- A list of calls handed over as slices: kinds, texts one after another, and for each call the bound at which its text ends. Any slices mean a list.
use Rattle.std.specs.Prelude.{ℕ, ◌-◌, ◌/◌, ◌≡◌, ◌≤◌, Bool, cond, ◌&&◌, List, [], ◌∷◌, ◌++◌, length, get_or, take, drop, leb, ltb, Result, Ok, Err, MatchResult}
use Rattle.model.specs.Refusals.{Outcome, accepted, refused, table_row}
use Rattle.model.specs.Record.{Call, Open, Apply, Undo, Close, Report, report_numbers}
use Rattle.model.specs.declared.Refusal.{Refusal}
use Rattle.runs.specs.declared.Kind.{Kind}
use Rattle.runs.specs.declared.Kind.TheVariants as kind
use Rattle.runs.specs.declared.UnknownKind.{UnknownKind}

-- how many kinds of call change the session
abbrev pub kind_count : ℕ
kind_count = 4

-- the number of a kind
abbrev pub number_of : Kind → ℕ
number_of kind.Open = 0
number_of kind.Apply = 1
number_of kind.Undo = 2
number_of kind.Close = 3

-- the kind that has the number, or an error with a number that no kind has
abbrev pub Decodes : ℕ → Result Kind UnknownKind → Type 0
Decodes number r = MatchResult r (λ k. number_of k ≡ number) (λ e. (e.0 ≡ number) × (kind_count ≤ number))

-- a call of a kind
abbrev pub call_for : Kind → (text : List ℕ) → Call
call_for kind.Open text = Open text
call_for kind.Apply text = Apply text
call_for kind.Undo text = Undo
call_for kind.Close text = Close

-- 0 open, 1 apply, 2 undo, 3 close
unfoldable pub call_of : (kind : ℕ) (text : List ℕ) → Call
call_of kind text = get_or (Open text ∷ Apply text ∷ Undo ∷ []) kind Close

-- the text of a call begins where the one before it ends
abbrev pub part : List ℕ → (from end : ℕ) → List ℕ
part texts from end = take (end - from) (drop from texts)

-- an entry is a call: of a known kind, with a text that ends where it begins or after, within the texts
abbrev pub is_call : (kind from end texts : ℕ) → Bool
is_call kind from end texts = ltb kind kind_count && leb from end && leb end texts

-- the calls, up to the first entry that is none, or has no bound
unfoldable pub calls_from : (from : ℕ) (kinds bounds texts : List ℕ) → List Call
calls_from from [] bounds texts = []
calls_from from (k ∷ ks) [] texts = []
calls_from from (k ∷ ks) (b ∷ bs) texts =
    let rest = calls_from b ks bs texts in
    cond (is_call k from b (length texts)) (call_of k (part texts from b) ∷ rest) []

-- an answer takes so many numbers: 0 and those of the report, or the refusal's number and what is returned; 0 in the rest
abbrev pub answer_room : ℕ
answer_room = 6

abbrev pub answer_numbers : Outcome Report → List ℕ
answer_numbers (accepted y) = 0 ∷ report_numbers y
answer_numbers (refused x) = let row = table_row x in row.number ∷ row.returned ∷ []

unfoldable pub six_numbers : Outcome Report → List ℕ
six_numbers a = take answer_room (answer_numbers a ++ (0 ∷ 0 ∷ 0 ∷ 0 ∷ 0 ∷ []))

-- the same of an answer whose report is given by five numbers
abbrev pub in_six : Result (List ℕ) Refusal → List ℕ
in_six (Ok ns) = 0 ∷ ns
in_six (Err x) = let row = table_row x in row.number ∷ row.returned ∷ 0 ∷ 0 ∷ 0 ∷ 0 ∷ []

-- the calls that are run: those for whose answers there is room
abbrev pub calls_in : (kinds bounds texts answers : List ℕ) → List Call
calls_in kinds bounds texts answers = take (length answers / answer_room) (calls_from 0 kinds bounds texts)
