-- What stands in a stored rule with one line more, by its kind: a key at the end of those that stand, or another operation or head.
use Rattle.std.specs.Prelude.{ℕ, ◌+◌, ◌≤◌, ◌<◌, ◌≡◌, List, set}
use Rattle.std.proofs.Common.{arith, ◌∙◌, length-set}
use Rattle.std.proofs.Math.Path.{refl}
use Rattle.std.proofs.Math.ListN.{length}
use Rattle.lists.proofs.Laws.OneMore.{stored_last}
use Rattle.model.specs.Limits
use Rattle.forms.specs.declared.LineKind.TheVariants.{Op, Pnode, Pedge, Arm, Put, Cut}
use Rattle.graph.specs.Operations.{code_of}
use Rattle.graph.specs.declared.rule.Operation.{Operation}
use Rattle.text.specs.declared.lines.Line.{Line}
use Rattle.graph.specs.declared.rule.PackedRule.{PackedRule}
use Rattle.rule_lines.specs.RuleLines.{FitsRule}
use Rattle.rules.specs.Rules.{Room, parts_of, with, KeptRule}
use Rattle.rules.specs.Laws.RuleParts.{IsPart, part-added, head-added, room-for-node, room-for-edge, room-for-part}

module _ (r : PackedRule) (l : Line) (f : FitsRule r) (q : Room r l) where
  -- arrays of the same lengths, with no more in them than may be
  fits-then : {operation : Operation} {head order size count : ℕ} {nodes edges parts : List ℕ} → length nodes ≡ length r.pattern.nodes
      → length edges ≡ length r.pattern.edges → length parts ≡ length r.action.parts
      → order ≤ Limits.pattern_nodes → size ≤ Limits.pattern_edges → count ≤ Limits.puts
      → FitsRule record {
        pattern = record { nodes = nodes; order = order; edges = edges; size = size };
        action = record { operation = operation; head = head; parts = parts; count = count };
      }
  fits-then n e p i j k =
      record { nodes_room = n ∙ f.nodes_room; edges_room = e ∙ f.edges_room; parts_room = p ∙ f.parts_room; order = i; size = j; count = k }

  pub kept_op : l.kind ≡ Op → {o : Operation} → code_of o ≡ l.row
      → KeptRule r l (record {
        pattern = r.pattern;
        action = record { operation = o; head = r.action.head; parts = r.action.parts; count = r.action.count };
      })
  unfolding with
  kept_op e coded = record { fits = fits-then refl refl refl f.order f.size f.count; parts = rw (e, coded) }

  pub kept-node : l.kind ≡ Pnode
      → KeptRule r l (record {
        pattern = record {
          nodes = set r.pattern.nodes r.pattern.order l.row;
          order = r.pattern.order + 1;
          edges = r.pattern.edges;
          size = r.pattern.size;
        };
        action = r.action;
      })
  unfolding with
  kept-node e =
      let less = room-for-node r l q e in
      let room : r.pattern.order < length r.pattern.nodes = omega (arith, f.nodes_room) in
      record {
        fits = fits-then (length-set r.pattern.nodes r.pattern.order l.row) refl refl (omega arith) f.size f.count;
        parts = rw (e, stored_last r.pattern.nodes r.pattern.order l.row room);
      }

  pub kept-edge : l.kind ≡ Pedge
      → KeptRule r l (record {
        pattern = record {
          nodes = r.pattern.nodes;
          order = r.pattern.order;
          edges = set r.pattern.edges r.pattern.size l.row;
          size = r.pattern.size + 1;
        };
        action = r.action;
      })
  unfolding with
  kept-edge e =
      let less = room-for-edge r l q e in
      let room : r.pattern.size < length r.pattern.edges = omega (arith, f.edges_room) in
      record {
        fits = fits-then refl (length-set r.pattern.edges r.pattern.size l.row) refl f.order (omega arith) f.count;
        parts = rw (e, stored_last r.pattern.edges r.pattern.size l.row room);
      }

  pub kept-part : IsPart l.kind
      → KeptRule r l (record {
        pattern = r.pattern;
        action = record {
          operation = r.action.operation;
          head = r.action.head;
          parts = set r.action.parts r.action.count l.row;
          count = r.action.count + 1;
        };
      })
  unfolding with
  kept-part e =
      let less = room-for-part r l q e in
      let room : r.action.count < length r.action.parts = omega (arith, f.parts_room) in
      record {
        fits = fits-then refl refl (length-set r.action.parts r.action.count l.row) f.order f.size (omega arith);
        parts = rw (part-added (parts_of r) l.row l.kind e, stored_last r.action.parts r.action.count l.row room);
      }

  pub kept-head : (l.kind ≡ Op → ⊥) → (l.kind ≡ Pnode → ⊥) → (l.kind ≡ Pedge → ⊥) → (l.kind ≡ Arm → ⊥) → (l.kind ≡ Put → ⊥) → (l.kind ≡ Cut → ⊥)
      → KeptRule r l (record {
        pattern = r.pattern;
        action = record { operation = r.action.operation; head = l.row; parts = r.action.parts; count = r.action.count };
      })
  unfolding with
  kept-head op pnode pedge arm put cut =
      record {
        fits = fits-then refl refl refl f.order f.size f.count;
        parts = rw (head-added (parts_of r) l.row l.kind q.kind op pnode pedge arm put cut);
      }
