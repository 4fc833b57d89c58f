-- What contracts of the readers say of a line: that it is in form, and which action its key belongs to.
use Rattle.std.specs.Prelude.{ℕ, ◌≡◌, true}
use Rattle.lists.specs.Lists.{◌∈◌}
use Rattle.lists.specs.Radix.{within}
use Rattle.model.specs.Files.{Line, Format}
use Rattle.model.specs.Files.RuleText.{RuleKey, op=, pnode=, pedge=, make=, arm=, put=, drop=, cut=, group=}

-- a key of the format, and numbers within the limits of its form
pub record LineInForm {K : Type 0} (f : Format K) (l : Line K) : Type 0 where
  pub listed : l.key ∈ f.keys
  pub limited : within (f.form_of l.key).below l.numbers ≡ true

-- the code of a key's action
abbrev pub code_of : RuleKey → ℕ
code_of op= = 0
code_of pnode= = 0
code_of pedge= = 0
code_of make= = 1
code_of arm= = 1
code_of put= = 2
code_of drop= = 3
code_of cut= = 4
code_of group= = 5
