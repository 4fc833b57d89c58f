-- What first and after answer while no drawing is open, and what is stored when a rule text is accepted.
use Rattle.std.specs.Prelude.{ℕ, ◌≡◌, refl, false, List, [], Ok}
use Rattle.model.specs.Refusals.{refused}
use Rattle.model.specs.Record.{First, After}
use Rattle.model.specs.declared.Refusal.TheVariants.{NotOpen}
use Rattle.graph.specs.Packed.{unpack_scheme}
use Rattle.graph.specs.declared.rule.PackedRule.{PackedRule}
use Rattle.rules.specs.Readers.{ReadRule}
use Rattle.matcher.specs.Matchers.{Stored}
use Rattle.session.specs.declared.Session.{Session}
use Rattle.session.specs.Sessions.{StoredSession, Stepped}
use Rattle.queries.specs.Laws.Listing.{pattern-while-shut, first-refused, after-refused}

module _ {s : Session} {rule : List ℕ} (stored : StoredSession s) where
  pub accepted-stored : {read : PackedRule} → ReadRule (unpack_scheme s.scheme) rule (Ok read) → Stored s.instance read.pattern
  accepted-stored {read} r = record { scheme = unpack_scheme s.scheme; instance = stored.instance; pattern = (r.rule read refl).pattern }

  pub first-while-shut : s.opened ≡ false → Stepped (First rule) s (refused NotOpen) [] s
  first-while-shut h = first-refused stored (pattern-while-shut h)

  pub after-while-shut : {list : List ℕ} → s.opened ≡ false → Stepped (After rule list) s (refused NotOpen) [] s
  after-while-shut h = after-refused stored (pattern-while-shut h)
