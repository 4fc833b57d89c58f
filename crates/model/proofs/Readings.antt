-- Where document 01 can be read in two ways, the reading that the definitions take, case by case: a text, and the number and line with which
-- it is refused, or 0 and 0. docs/DECISIONS.md gives the reasons.
use Rattle.std.specs.Prelude.{ℕ, ◌≡◌, refl, not, List, [], ◌∷◌, ◌++◌}
use Prim.Native.String.{String}
use Rattle.lists.specs.Lists.{keep}
use Rattle.lists.specs.Order.{same}
use Rattle.lists.specs.Text.{bytes}
use Rattle.model.specs.Refusals.{Outcome, accepted, refused, ◌>>=◌, table_row}
use Rattle.model.specs.Files.DrawingFile.{read_drawing}
use Rattle.model.specs.Files.RuleText.{read_rule}
use Rattle.model.proofs.Examples.{computing, lines}

pub record Reading : Type 0 where
  pub given : List ℕ
  pub expected : List ℕ

abbrev refusal : {A : Type 0} → Outcome A → List ℕ
refusal (accepted a) = 0 ∷ 0 ∷ []
refusal (refused r) = (table_row r).number ∷ (table_row r).returned ∷ []

-- a drawing file, byte for byte; with its lines written as in Examples
abbrev raw : String → (number line : ℕ) → Reading
raw text number line = record { given = refusal (read_drawing (bytes text)); expected = number ∷ line ∷ [] }

abbrev drawing : String → (number line : ℕ) → Reading
drawing text number line = record { given = refusal (read_drawing (lines text)); expected = number ∷ line ∷ [] }

-- a rule, where classes 0 and 2 are object classes and 1 is a value class; names 0 and 2 are functional and 1 is multivalued
abbrev rule : String → (number line : ℕ) → Reading
rule text number line =
    record {
      given = refusal
          (read_drawing (lines "class=0,0 class=1,1 class=2,0 name=0,0 name=1,1 name=2,0 may=0,0,1 may=0,1,0 may=0,1,1 may=0,2,0")
          >>= λ f. read_rule f.scheme (lines text));
      expected = number ∷ line ∷ [];
    }

-- lines and numbers: causes 1 and 2
abbrev of_lines : List Reading
of_lines =
    raw "" 0 0
    ∷ raw "\n" 1 1
    ∷ raw "class=0,0" 1 1
    ∷ raw "class=0,0\nclass=1,1" 1 2
    ∷ raw "class=0,0\n\n" 1 2
    ∷ raw "class=0,0\r\n" 1 1
    ∷ raw "class=0,0 \n" 1 1
    ∷ drawing "class=0,0,0" 1 1
    ∷ drawing "class=0," 1 1
    ∷ drawing "class=0=0" 1 1
    ∷ drawing "class" 1 1
    ∷ drawing "Class=0,0" 1 1
    ∷ drawing "op=0" 1 1
    ∷ drawing "class=64,0" 1 1
    ∷ drawing "class=00,0" 1 1
    ∷ drawing "class=+1,0" 1 1
    ∷ drawing "class=99999999999999999999999999,0" 1 1
    ∷ drawing "class=0,0 class=0,1" 1 2
    ∷ drawing "class=0,0 name=0,0 class=1,0" 1 3
    ∷ drawing "class=0,0 name=0,1 may=0,0,0 may=0,0,0" 1 4
    ∷ drawing "class=0,0 node=5,0,0 node=5,0,0" 1 3
    ∷ rule "pnode=0,0,0" 1 1
    ∷ rule "op=0 op=0" 1 2
    ∷ rule "op=0 drop=0" 1 2
    ∷ rule "op=1" 1 2
    ∷ rule "op=2 pnode=0,0,0" 1 3
    ∷ rule "op=1 pnode=0,0,0 arm=0,0" 1 3
    ∷ rule "op=1 make=0 make=2" 1 3
    ∷ rule "op=1 put=0,0,0" 1 2
    ∷ rule "op=0 pnode=9,0,5" 1 2
    ∷ rule "op=0 pnode=1,0,0 pnode=0,0,0" 0 0
    ∷ rule "op=0 pnode=0,0,0 pedge=0,1,6" 1 3
    ∷ rule "op=0 pnode=0,0,0 pnode=0,0,0 pnode=0,0,0 pnode=0,0,0 pnode=0,0,0 pnode=0,0,0 pnode=9,0,0" 2 8
    ∷ rule "op=0 pnode=0,0,0 pnode=0,0,0 pnode=0,0,0 pnode=0,0,0 pnode=0,0,0 pnode=0,0,0 pnode=9,0,5" 1 8
    ∷ []

-- what is declared and what conforms: causes 3 and 4
abbrev of_conformity : List Reading
of_conformity =
    drawing "class=0,0 name=0,1 may=0,0,1" 3 3
    ∷ drawing "class=1,1 name=0,0 may=1,0,2" 3 3
    ∷ drawing "class=1,1 name=0,0 may=1,0,1" 4 3
    ∷ drawing "class=1,1 class=2,0 name=0,0 may=2,0,1" 0 0
    ∷ drawing "class=0,0 name=0,1 may=0,0,0 node=1,0,0 edge=1,1,1" 3 5
    ∷ drawing "class=0,0 node=0,0,7" 4 2
    ∷ drawing "class=1,1 node=0,1,0 node=1,1,0" 4 3
    ∷ drawing "class=0,0 node=0,0,0 node=1,0,0" 0 0
    ∷ drawing "class=0,0 name=0,1 node=1,0,0 edge=1,0,1" 4 4
    ∷ drawing "class=0,0 name=0,0 may=0,0,0 node=1,0,0 node=2,0,0 edge=1,0,1 edge=1,0,2" 4 7
    ∷ drawing "class=0,0 name=0,1 may=0,0,0 node=1,0,0 node=2,0,0 edge=1,0,1 edge=1,0,2" 0 0
    ∷ drawing "class=0,0 node=0,0,7 class=1,1" 4 2
    ∷ rule "op=0 pnode=0,1,0" 4 2
    ∷ rule "op=0 pnode=1,1,0" 0 0
    ∷ rule "op=0 pnode=1,1,7 pnode=1,1,7" 4 3
    ∷ rule "op=0 pnode=1,1,7 pnode=1,0,0 pnode=1,0,0" 0 0
    ∷ rule "op=0 pnode=0,0,0 pedge=0,1,1" 3 3
    ∷ rule "op=0 pnode=0,0,0 pedge=0,0,0" 4 3
    ∷ rule "op=0 pnode=0,0,0 pnode=0,0,0 pedge=0,2,0 pedge=0,2,1" 4 5
    ∷ rule "op=0 pnode=0,0,0 pedge=0,1,0 pedge=0,1,0" 1 4
    ∷ []

-- action lines: cause 5
abbrev of_actions : List Reading
of_actions =
    rule "op=1 make=9" 3 2
    ∷ rule "op=1 make=1" 5 2
    ∷ rule "op=1 pnode=1,0,0 make=0 arm=0,0" 0 0
    ∷ rule "op=1 pnode=1,0,0 make=2 arm=0,0" 5 4
    ∷ rule "op=1 pnode=0,0,0 make=0 arm=1,0" 5 4
    ∷ rule "op=1 make=0 arm=0,0" 3 3
    ∷ rule "op=1 pnode=1,0,0 make=0 arm=0,0 arm=0,0" 1 5
    ∷ rule "op=2 pnode=0,0,0 put=0,0,0" 5 3
    ∷ rule "op=2 pnode=0,0,0 pnode=0,0,0 put=0,2,0 put=0,2,1" 0 0
    ∷ rule "op=2 pnode=0,0,0 pedge=0,1,0 put=0,1,0" 0 0
    ∷ rule "op=2 pnode=0,0,0 put=0,9,0" 3 3
    ∷ rule "op=3 drop=0" 3 2
    ∷ rule "op=3 pnode=1,0,0 drop=0" 0 0
    ∷ rule "op=4 pnode=0,0,0 pedge=0,1,0 cut=0,1,0" 0 0
    ∷ rule "op=4 pnode=0,0,0 pedge=0,1,0 cut=0,2,0" 5 4
    ∷ rule "op=5 pnode=0,0,0 group=0,0,1,1" 0 0
    ∷ rule "op=5 pnode=1,0,0 group=0,0,1,1" 0 0
    ∷ rule "op=5 pnode=0,0,0 group=0,1,1,1" 5 3
    ∷ rule "op=5 pnode=0,0,0 group=0,0,0,1" 5 3
    ∷ rule "op=5 pnode=2,0,0 group=0,0,1,1" 5 3
    ∷ []

-- none of them is read otherwise
pub readings : keep (λ r. not (same r.given r.expected)) (of_lines ++ of_conformity ++ of_actions) ≡ []
unfolding computing
readings = refl
