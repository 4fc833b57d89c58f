-- Lists of calls: "Each call of a list gets it as the call before left it, and nothing else writes it meanwhile."
use Rattle.std.specs.Prelude.{ℕ, List, [], ◌∷◌}
use Rattle.model.specs.Refusals.{Outcome}
use Rattle.model.specs.Record.{Call, Report}
use Rattle.session.specs.declared.Session.{Session}
use Rattle.session.specs.Sessions.{Stepped}

-- calls that begin at one session and leave another, each held to its contract, and their answers in their order
pub data Chain : Session → List Call → List (Outcome Report) → Session → Type 0 where
  ends : {s : Session} → Chain s [] [] s
  goes : {s t u : Session} {c : Call} {cs : List Call} {a : Outcome Report} {answers : List (Outcome Report)} {buffer : List ℕ}
      → Stepped c s a buffer t → Chain t cs answers u → Chain s (c ∷ cs) (a ∷ answers) u
