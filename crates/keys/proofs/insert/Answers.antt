-- `keys::insert` meets its contract: the keys from the key's place on move up by one, and the key goes there. Assumes nothing.
use Rattle.std.proofs.Common.{rules, arith, ◌+◌, take, set, ap, sym, ◌∙◌}
use Rattle.keys.specs.Laws.Keys.{place_front, moved-up, join-there, join-at}
use Rattle.keys.proofs.insert.Goals as goal

pub returns-then-stands : goal.returns-then-stands
returns-then-stands c = record { few = search rules; front = join-there _ _ c.requires.keys_value (sym c.if-stands.true ∙ c.stands.ensures) }

pub returns : goal.returns
returns c =
    let bound = place_front _ _ _ _ c.place-at.ensures (omega arith) in
    record {
      few = search rules;
      front = ap (λ ks. take (c.args.count + 1) (set ks c.place-at.result c.args.key)) c.copy_within.ensures.after
          ∙ moved-up c.args.keys.now c.place-at.result c.args.count bound c.requires.count_in_bounds c.args.key
          ∙ join-at _ _ c.requires.keys_value _ c.place-at.ensures (sym c.if-stands.false ∙ c.stands.ensures);
    }
