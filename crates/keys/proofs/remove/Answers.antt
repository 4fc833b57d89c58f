-- `keys::remove` meets its contract: the keys after the key's place move down by one. Assumes nothing.
use Rattle.std.proofs.Common.{rules, arith, ◌-◌, take, ap, sym, ◌∙◌}
use Rattle.keys.specs.Laws.Keys.{moved-down, found_front, cut-there, cut_apart}
use Rattle.keys.proofs.remove.Goals as goal

pub returns-then-not-stands : goal.returns-then-not-stands
returns-then-not-stands c = record { few = search rules; front = cut_apart _ _ (sym c.if-not-stands.true ∙ c.stands.ensures) }

pub copy_within-requires-clause-start_le_end : goal.copy_within-requires-clause-start_le_end
copy_within-requires-clause-start_le_end c =
    found_front _ _ _ _ c.requires.keys_value c.place-at.ensures (sym c.if-not-stands.false ∙ c.stands.ensures) c.requires.count_in_bounds

pub returns : goal.returns
returns c =
    let found = sym c.if-not-stands.false ∙ c.stands.ensures in
    let below = found_front _ _ _ _ c.requires.keys_value c.place-at.ensures found c.requires.count_in_bounds in
    record {
      few = omega arith;
      front = ap (take (c.args.count - 1)) c.copy_within.ensures.after
          ∙ moved-down c.args.keys.now c.place-at.result c.args.count (omega arith) c.requires.count_in_bounds
          ∙ cut-there _ _ c.requires.keys_value _ c.place-at.ensures found;
    }
