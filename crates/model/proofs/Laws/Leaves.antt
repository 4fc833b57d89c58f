-- What an accepted operation leaves is exactly what document 01 says of its action.
-- Action by action, from the laws of each.
use Rattle.std.specs.Prelude.{ℕ, ◌≡◌, List}
use Rattle.std.proofs.Common.{subst}
use Rattle.model.specs.Graph.{Scheme, Instance}
use Rattle.model.specs.Matching.{matchings}
use Rattle.model.specs.Operations.{Action, pattern_only, add_node, add_edges, delete_node, delete_edges, abstract, Rule, node_deletion, edge_deletion}
use Rattle.model.specs.Operations.{perform, applied}
use Rattle.model.specs.Refusals.{accepted}
use Rattle.model.specs.Sound.{Sound}
use Rattle.model.specs.Meaning.{SourcesStand, Leaves}
use Rattle.model.proofs.Laws.Sound.{well-formed}
use Rattle.model.proofs.Laws.Deletions.{node-deletion-exactly, edge-deletion-exactly}
use Rattle.model.proofs.Laws.EdgeAddition.{edge-addition-smallest}
use Rattle.model.proofs.Laws.Operations.{pattern-only-changes-nothing}
use Rattle.model.proofs.Laws.Serves.{sources-stand, node-addition-exactly, node-addition-serves, abstraction-exactly, abstraction-serves}

perform-leaves : (s : Scheme) (a : Action) (ms : List (List ℕ)) (d e : Instance) → SourcesStand d → perform s a ms d ≡ accepted e → Leaves a ms d e
unfolding perform
perform-leaves s pattern_only ms d e c h = pattern-only-changes-nothing s ms d e h
perform-leaves s (add_node K arms) ms d e c h = (node-addition-exactly K arms ms d e c h, node-addition-serves K arms ms d e c h)
perform-leaves s (add_edges ts) ms d e c h = edge-addition-smallest s ts ms d e h
perform-leaves s (delete_node p) ms d e c h = let r : node_deletion p ms d ≡ e = cc in subst (Leaves (delete_node p) ms d) r (node-deletion-exactly p ms d)
perform-leaves s (delete_edges ts) ms d e c h = let r : edge_deletion ts ms d ≡ e = cc in subst (Leaves (delete_edges ts) ms d) r (edge-deletion-exactly ts ms d)
perform-leaves s (abstract p K a b) ms d e c h = (abstraction-exactly p K a b ms d e c h, abstraction-serves p K a b ms d e c h)

-- an accepted operation leaves of a sound drawing exactly what document 01 says
pub applied-leaves : (s : Scheme) (r : Rule) (d e : Instance) → Sound s d → applied s r d ≡ accepted e → Leaves r.action (matchings r.pattern d) d e
unfolding applied
applied-leaves s r d e h k = perform-leaves s r.action (matchings r.pattern d) d e (sources-stand (well-formed s d h)) k
