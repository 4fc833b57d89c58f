-- "Bench examples": E1 to E10 as one theorem about the definitions, from the texts of the files to what is printed, listed or answered.
use Rattle.std.specs.Prelude.{ℕ, ◌≡◌, refl, cond, List, [], ◌∷◌, ◌++◌, eqb}
use Prim.Native.Char.{code}
use Prim.Native.String.{String, [] as []ˢ, ◌∷◌ as ◌∷ˢ◌}
use Rattle.model.specs.Graph.{conforms_by}
use Rattle.model.specs.Matching.{is_matching, matchings}
use Rattle.model.specs.Operations.{with_node, node_addition, edge_addition, node_deletion, edge_deletion, abstraction, perform, applied, counts}
use Rattle.model.specs.Refusals.{Outcome, accepted, refused, table_row}
use Rattle.model.specs.Files.{reading, read}
use Rattle.model.specs.Files.DrawingFile.{drawing_checks, drawing_format, read_drawing, file_text}
use Rattle.model.specs.Files.RuleText.{rule_checks, rule_format, read_rule}
use Rattle.model.specs.Record.{Record, shut, Call, Open, Apply, Undo, Report, report_numbers, accept, step, run, Listing, ends, goes}
use Rattle.model.specs.Trial.{trial}

-- what an example opens to compute
unfoldable pub computing : Unit {0}
unfolding conforms_by is_matching matchings with_node node_addition edge_addition node_deletion edge_deletion abstraction perform applied counts reading read drawing_checks drawing_format read_drawing file_text rule_checks rule_format read_rule accept step run trial
computing = tt

-- a text as document 01 prints it, line by line: a space ends a line, and so does the end
abbrev pub lines : String → List ℕ
lines []ˢ = 10 ∷ []
lines (c ∷ˢ s) = cond (eqb (code c) 32) 10 (code c) ∷ lines s

-- # The files
abbrev pub J : List ℕ
J = lines "class=0,0 class=1,1 name=0,0 name=1,1 may=0,0,1 may=0,1,0 node=3,0,0 node=5,0,0 node=6,1,600 edge=3,0,6 edge=3,1,5"

abbrev pub R : List ℕ
R = lines "op=2 pnode=0,0,0 pnode=0,0,0 pnode=1,0,0 pedge=0,0,2 pedge=0,1,1 put=1,0,2"

abbrev pub J7 : List ℕ
J7 = lines "class=0,0 class=1,1 name=0,0 name=1,1 may=0,0,1 may=0,1,0 node=3,0,0 node=5,0,0 node=6,1,600 node=7,1,720 edge=3,0,6 edge=3,1,5"

abbrev pub J65535 : List ℕ
J65535 = lines "class=0,0 class=1,1 name=0,0 name=1,1 may=0,0,1 may=0,1,0 node=3,0,0 node=5,0,0 node=6,1,600 node=65535,1,720 edge=3,0,6 edge=3,1,5"

-- two free class-0 pattern nodes; the empty pattern; the rule of E7
abbrev pub two_free : List ℕ
two_free = lines "op=0 pnode=0,0,0 pnode=0,0,0"

abbrev pub empty : List ℕ
empty = lines "op=0"

abbrev pub E7Rule : List ℕ
E7Rule = lines "op=1 pnode=1,0,0 make=0 arm=0,0"

-- # What is observed
-- the record after a file is opened
abbrev pub opening : (file : List ℕ) → Record
opening file = (step shut (Open file)).state

-- an answer as numbers: 0 and the report, or the refusal's number and what it returns
abbrev pub told : Outcome Report → List ℕ
told (accepted x) = 0 ∷ report_numbers x
told (refused r) = (table_row r).number ∷ (table_row r).returned ∷ []

abbrev pub told_all : List (Outcome Report) → List (List ℕ)
told_all [] = []
told_all (a ∷ as') = told a ∷ told_all as'

abbrev pub answers : List Call → List (List ℕ)
answers cs = told_all (run shut cs).answers

pub record Examples : Type 0 where
  pub E1 : trial J R ≡ lines "done=1,0,1,0,0" ++ J ++ lines "edge=5,0,6"
  pub E2 : Listing (opening J) two_free ((3 ∷ 3 ∷ []) ∷ (3 ∷ 5 ∷ []) ∷ (5 ∷ 3 ∷ []) ∷ (5 ∷ 5 ∷ []) ∷ [])
  pub E3 : Listing (opening J) empty ([] ∷ [])
  pub E4 : trial J (lines "op=1 make=0") ≡ lines "done=1,0,0,0,0" ++ J
  pub E5 :
      trial J (lines "op=3 pnode=1,0,0 drop=0")
      ≡ lines "done=1,0,0,1,1 class=0,0 class=1,1 name=0,0 name=1,1 may=0,0,1 may=0,1,0 node=3,0,0 node=5,0,0 edge=3,1,5"
  pub E6 : trial J7 (lines "op=2 pnode=0,0,0 pnode=1,0,0 put=0,0,1") ≡ lines "refused=12,3"
  pub E7 :
      trial J7 E7Rule
      ≡ lines "done=2,1,1,0,0 class=0,0 class=1,1 name=0,0 name=1,1 may=0,0,1 may=0,1,0 node=3,0,0 node=5,0,0 node=6,1,600 node=7,1,720 node=8,0,0 edge=3,0,6 edge=3,1,5 edge=8,0,7"
  pub E8 :
      trial J (lines "op=5 pnode=0,0,0 group=0,0,1,1")
      ≡ lines "done=2,1,1,0,0 class=0,0 class=1,1 name=0,0 name=1,1 may=0,0,1 may=0,1,0 node=3,0,0 node=5,0,0 node=6,1,600 node=7,0,0 edge=3,0,6 edge=3,1,5 edge=7,1,3"
  pub E9 : trial J65535 E7Rule ≡ lines "refused=10,0"
  pub E10 :
      answers (Open J ∷ Apply R ∷ Undo ∷ Undo ∷ [])
      ≡ (0 ∷ 2 ∷ 2 ∷ []) ∷ (0 ∷ 1 ∷ 0 ∷ 1 ∷ 0 ∷ 0 ∷ []) ∷ (0 ∷ []) ∷ (8 ∷ 0 ∷ []) ∷ []

pub examples : Examples
unfolding computing
examples =
    record {
      E1 = refl;
      E2 = goes (goes (goes (goes ends)));
      E3 = goes ends;
      E4 = refl;
      E5 = refl;
      E6 = refl;
      E7 = refl;
      E8 = refl;
      E9 = refl;
      E10 = refl;
    }
