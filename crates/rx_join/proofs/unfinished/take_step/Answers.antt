-- `rx_join::unfinished::take_step` meets its contract: each arm by what its function ensures.
-- Assumes nothing.
use mathlib.Core.Path.{refl}
use lib.Dec.{ltb}
use borrow.Author.Rules.{rules}
use Rattle.rx_spec.specs.Books.{ignored, no_answer, refuse, finish}
use Rattle.rx_place_spec.specs.PlaceBytes.{state_in}
use Rattle.rx_join_spec.specs.declared.Outcome.TheVariants as outcome
use Rattle.rx_join_spec.proofs.JoinLaws.{stays_joins, left-joins}
use Rattle.rx_join_spec.proofs.LieLaws.{no_answer_lem, refused, opening, nowhere}
use Rattle.rx_join.proofs.unfinished.take_step.Goals as goal

pub returns-in-Ignore-clause-joins : goal.returns-in-Ignore-clause-joins
returns-in-Ignore-clause-joins c =
    let a = c.args in
    rw c.in-Ignore.is (stays_joins a.payload.now a.pool.now a.places.now outcome.Ignored ignored refl tt)

pub returns-in-Deliver-clause-joins : goal.returns-in-Deliver-clause-joins
returns-in-Deliver-clause-joins c =
    let a = c.args in
    rw (c.in-Deliver.is, c.leave.ensures.1)
    (left-joins a.i a.payload.now a.pool.now a.places.now outcome.InFrame (finish a.payload.now) _ refl tt (search rules) c.requires.1 c.leave.ensures.0)

pub open-requires : goal.open-requires
open-requires c = (c.requires.0, rw c.in-Open.is at c.requires.2)

pub returns-in-Open-clause-joins : goal.returns-in-Open-clause-joins
returns-in-Open-clause-joins c = rw c.in-Open.is c.open.ensures

pub returns-in-Open-clause-lies : goal.returns-in-Open-clause-lies
returns-in-Open-clause-lies c =
    let a = c.args in
    nowhere _ _ c.open.result c.open.ensures (opening (ltb a.i 8) a.source a.i a.payload.now a.tick (state_in a.places.now a.pool.now))

pub append-requires : goal.append-requires
append-requires c = (c.requires.0, rw c.in-Append.is at c.requires.2)

pub returns-in-Append-clause-joins : goal.returns-in-Append-clause-joins
returns-in-Append-clause-joins c = rw c.in-Append.is c.append.ensures

pub returns-in-Append-clause-lies : goal.returns-in-Append-clause-lies
returns-in-Append-clause-lies c = nowhere _ _ c.append.result c.append.ensures no_answer_lem

pub close-requires : goal.close-requires
close-requires c = (c.requires.0, rw c.in-Close.is at c.requires.2)

pub returns-in-Close-clause-joins : goal.returns-in-Close-clause-joins
returns-in-Close-clause-joins c = rw c.in-Close.is c.close.ensures.joins

pub returns-in-Close-clause-lies : goal.returns-in-Close-clause-lies
returns-in-Close-clause-lies c = rw c.in-Close.is c.close.ensures.lies

pub returns-in-Refuse-clause-joins : goal.returns-in-Refuse-clause-joins
returns-in-Refuse-clause-joins c =
    let a = c.args in
    rw (c.in-Refuse.is, c.leave-in-Refuse.ensures.1)
    (left-joins a.i a.payload.now a.pool.now a.places.now (outcome.TransportRefusal _) (refuse _) _ refl tt (search rules) c.requires.1 c.leave-in-Refuse.ensures.0)

pub refuse_and_swallow-requires : goal.refuse_and_swallow-requires
refuse_and_swallow-requires c = rw c.in-RefuseAndSwallow.is at c.requires.2

pub returns-in-RefuseAndSwallow-clause-joins : goal.returns-in-RefuseAndSwallow-clause-joins
returns-in-RefuseAndSwallow-clause-joins c =
    let a = c.args in
    rw c.in-RefuseAndSwallow.is (c.refuse_and_swallow.ensures a.pool.now a.payload.now a.tick)

pub returns-in-RefuseAndSwallow-clause-lies : goal.returns-in-RefuseAndSwallow-clause-lies
returns-in-RefuseAndSwallow-clause-lies c =
    let a = c.args in
    nowhere _ _ c.refuse_and_swallow.result (c.refuse_and_swallow.ensures a.pool.now a.payload.now a.tick) (refused _)

pub swallow-requires : goal.swallow-requires
swallow-requires c = rw c.in-Swallow.is at c.requires.2

pub returns-in-Swallow-clause-joins : goal.returns-in-Swallow-clause-joins
returns-in-Swallow-clause-joins c = rw c.in-Swallow.is (c.swallow.ensures c.args.pool.now c.args.payload.now)

pub returns-in-Swallow-clause-lies : goal.returns-in-Swallow-clause-lies
returns-in-Swallow-clause-lies c = nowhere _ _ c.swallow.result (c.swallow.ensures c.args.pool.now c.args.payload.now) no_answer_lem

pub returns-in-SwallowLast-clause-joins : goal.returns-in-SwallowLast-clause-joins
returns-in-SwallowLast-clause-joins c =
    let a = c.args in
    rw (c.in-SwallowLast.is, c.leave-in-SwallowLast.ensures.1)
    (left-joins a.i a.payload.now a.pool.now a.places.now outcome.NoAnswer no_answer _ refl tt (search rules) c.requires.1 c.leave-in-SwallowLast.ensures.0)
