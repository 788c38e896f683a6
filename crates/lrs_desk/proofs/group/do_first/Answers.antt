use Rattle.std.proofs.Common.{◌≤◌, length, arith, rules, ◌≡◌, ap, inl, inr, sym, List, ◌∙◌}
use Rattle.lrs_machine.specs.declared.answer.Answer.{Answer}
use Rattle.lrs_image.specs.ChangeLists.{rows_in}
use Rattle.lrs_image.proofs.Staging.{stages_none, stages_more}
use Rattle.lrs_desk.proofs.Grouping.{all_given, as_many_given, bounded_after, bounded_all, ends_so, goes_on_from, none_staged, none_changed, group_ends, group_grows, group_stays, rows_follow, whole_group}
use Rattle.lrs_desk.proofs.group.do_first.Goals as goal

pub loop-key-init : goal.loop-key-init
loop-key-init g c = record {
  so_far = goes_on_from c.args.limits.now c.args.inventory.now c.prove_sound.ensures c.new-given.result.items (g.K.Keeper.staged c.args.keeper.now) c.new-given.ensures.items c.requires.staged;
  counted = c.requires.counted;
  rest = stages_none g.K.Holder c.args.keeper.now;
  listed = ap rows_in (sym c.requires.staged);
  few = omega arith;
}

pub loop-key-preserved : goal.loop-key-preserved
loop-key-preserved g c =
    let follows = rows_follow c.args.commands.now c.args.limits.now c.loop-key.key-index c.loop-key-item.result c.args.inventory.now c.loop-key.inventory c.do_next.new.inventory
    c.loop-key.given.items c.do_next.new.given.items (g.K.Keeper.staged c.loop-key.keeper) (g.K.Keeper.staged c.do_next.new.keeper) c.in-Ok-Some.field-0
    c.loop-key-test.true c.loop-key-item.is c.loop-key.invariant.so_far c.in-Ok-Some.ensures.does c.in-Ok-Some.more c.in-Ok-Some.field-0-is in
    record {
      so_far = group_grows c.args.commands.now c.args.limits.now c.loop-key.key-index c.loop-key-item.result c.args.inventory.now c.loop-key.inventory c.do_next.new.inventory
          c.loop-key.given.items c.do_next.new.given.items (g.K.Keeper.staged c.loop-key.keeper) (g.K.Keeper.staged c.do_next.new.keeper) c.in-Ok-Some.field-0
          c.loop-key-test.true c.loop-key-item.is c.loop-key.invariant.so_far c.in-Ok-Some.ensures.does c.in-Ok-Some.more c.in-Ok-Some.field-0-is;
      counted = c.do_next.ensures.counted;
      rest = stages_more g.K.Holder c.args.keeper.now c.loop-key.keeper c.do_next.new.keeper c.loop-key.invariant.rest c.do_next.ensures.rest;
      listed = follows.counted;
      few = follows.few;
    }

pub returns-in-Ok-None : goal.returns-in-Ok-None
returns-in-Ok-None g c = record {
  does = group_ends c.args.commands.now c.args.limits.now c.loop-key.key-index c.loop-key-item.result c.args.inventory.now c.loop-key.inventory c.do_next.new.inventory
      c.loop-key.given.items c.do_next.new.given.items (g.K.Keeper.staged c.loop-key.keeper) (g.K.Keeper.staged c.do_next.new.keeper) c.in-Ok-None.field-0
      c.loop-key-test.true c.loop-key-item.is c.loop-key.invariant.so_far c.in-Ok-None.ensures.does;
  stops = inr (ends_so c.args.commands.now c.args.limits.now c.loop-key.key-index c.loop-key-item.result c.args.inventory.now c.loop-key.inventory c.do_next.new.inventory
      c.loop-key.given.items c.do_next.new.given.items (g.K.Keeper.staged c.loop-key.keeper) (g.K.Keeper.staged c.do_next.new.keeper) c.in-Ok-None.field-0
      c.loop-key-test.true c.loop-key-item.is c.loop-key.invariant.so_far c.in-Ok-None.ensures.does c.in-Ok-None.field-0-is);
  bounded = bounded_after (g.K.Keeper.staged c.loop-key.keeper) (g.K.Keeper.staged c.do_next.new.keeper) c.loop-key.inventory c.do_next.new.inventory (let listed = c.loop-key.invariant.listed in let few = c.loop-key.invariant.few in omega (arith, listed, few)) c.in-Ok-None.ensures.does.changed;
  memory = tt;
  not_staged = tt;
  rest = stages_more g.K.Holder c.args.keeper.now c.loop-key.keeper c.do_next.new.keeper c.loop-key.invariant.rest c.do_next.ensures.rest;
  counted = c.do_next.ensures.counted;
}

pub returns-in-Err : goal.returns-in-Err
returns-in-Err g c =
    let within = c.loop-key-test.true in
    let some : 1 ≤ length c.do_next.new.given.items = search rules in
    record {
      does = group_stays c.args.commands.now c.args.limits.now c.loop-key.key-index c.args.inventory.now c.loop-key.inventory c.do_next.new.inventory
          c.loop-key.given.items c.do_next.new.given.items (g.K.Keeper.staged c.loop-key.keeper) (g.K.Keeper.staged c.do_next.new.keeper)
          c.loop-key.invariant.so_far (omega (arith, within)) some c.in-Err.ensures.memory c.in-Err.ensures.given c.in-Err.ensures.not_staged;
      stops =
          let many = ap (λ (xs : List Answer). length xs) c.in-Err.ensures.given
          ∙ as_many_given c.args.commands.now c.args.limits.now c.loop-key.key-index c.args.inventory.now c.loop-key.inventory c.loop-key.given.items (g.K.Keeper.staged c.loop-key.keeper) c.loop-key.invariant.so_far (omega (arith, within)) in
          omega (arith, within, many);
      bounded = bounded_all (g.K.Keeper.staged c.do_next.new.keeper) (let same = ap rows_in c.in-Err.ensures.not_staged in let listed = c.loop-key.invariant.listed in let few = c.loop-key.invariant.few in omega (arith, same, listed, few));
      memory = tt;
      not_staged = tt;
      rest = stages_more g.K.Holder c.args.keeper.now c.loop-key.keeper c.do_next.new.keeper c.loop-key.invariant.rest c.do_next.ensures.rest;
      counted = c.do_next.ensures.counted;
    }

pub returns-then-is_empty : goal.returns-then-is_empty
returns-then-is_empty g c =
    let within = c.loop-key-test.true in
    let few : c.loop-key.key-index ≤ length c.args.commands.now = omega (arith, within) in
    let empty : length c.do_next.new.given.items ≡ 0 = search rules in
    let none : length c.loop-key.given.items ≡ 0 = ap (λ (xs : List Answer). length xs) (sym c.in-Err.ensures.given) ∙ empty in
    record {
      does = tt;
      stops = tt;
      bounded = bounded_all (g.K.Keeper.staged c.do_next.new.keeper) (let same = ap rows_in c.in-Err.ensures.not_staged in let listed = c.loop-key.invariant.listed in let few = c.loop-key.invariant.few in omega (arith, same, listed, few));
      memory = c.in-Err.ensures.memory ∙ none_changed c.args.commands.now c.args.limits.now c.loop-key.key-index c.args.inventory.now c.loop-key.inventory c.loop-key.given.items (g.K.Keeper.staged c.loop-key.keeper)
          c.loop-key.invariant.so_far few none;
      not_staged = c.in-Err.ensures.not_staged ∙ none_staged c.args.commands.now c.args.limits.now c.loop-key.key-index c.args.inventory.now c.loop-key.inventory c.loop-key.given.items (g.K.Keeper.staged c.loop-key.keeper)
          c.loop-key.invariant.so_far few none;
      rest = stages_more g.K.Holder c.args.keeper.now c.loop-key.keeper c.do_next.new.keeper c.loop-key.invariant.rest c.do_next.ensures.rest;
      counted = c.do_next.ensures.counted;
    }

pub returns : goal.returns
returns g c = record {
  does = whole_group c.args.commands.now c.args.limits.now c.loop-key.key-index c.args.inventory.now c.loop-key.inventory c.loop-key.given.items (g.K.Keeper.staged c.loop-key.keeper)
      c.loop-key.invariant.so_far c.loop-key-test.false c.requires.some;
  stops = inl (all_given c.args.commands.now c.args.limits.now c.loop-key.key-index c.args.inventory.now c.loop-key.inventory c.loop-key.given.items (g.K.Keeper.staged c.loop-key.keeper)
      c.loop-key.invariant.so_far c.loop-key-test.false);
  bounded = bounded_all (g.K.Keeper.staged c.loop-key.keeper) (let listed = c.loop-key.invariant.listed in let few = c.loop-key.invariant.few in omega (arith, listed, few));
  memory = tt;
  not_staged = tt;
  rest = c.loop-key.invariant.rest;
  counted = c.loop-key.invariant.counted;
}
