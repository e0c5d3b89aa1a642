-- `rx_join::unfinished::join_sound` meets its contract.
-- Assumes nothing.
use Rattle.rx_join_spec.proofs.JoinLaws.{is_held, step_joins, step_allowed}
use Rattle.rx_join_spec.proofs.LieLaws.{by-frame}
use Rattle.rx_join.proofs.unfinished.join_sound.Goals as goal

pub take_step-requires : goal.take_step-requires
take_step-requires c =
    let a = c.args in
    let r = c.requires in (
      r.0,
      is_held a.source a.i a.payload.now a.tick a.pool.now a.places.now r.0 r.1 r.2,
      step_allowed a.source a.i a.payload.now a.tick a.pool.now a.places.now r.0 r.1 r.2 a.role
          c.is_swallowing-swallowing.result c.is_swallowing-swallowing.ensures c.len_at-len.result c.len_at-len.ensures c.step_of-step.result c.step_of-step.ensures,
    )

pub returns-clause-joins : goal.returns-clause-joins
returns-clause-joins c =
    let a = c.args in
    let r = c.requires in
    step_joins a.source a.i a.payload.now a.tick a.pool.now a.places.now r.0 r.1 r.2 a.role
    c.is_swallowing-swallowing.result c.is_swallowing-swallowing.ensures c.len_at-len.result c.len_at-len.ensures c.step_of-step.result c.step_of-step.ensures _ _ _
    c.take_step.ensures.joins

pub returns-clause-lies : goal.returns-clause-lies
returns-clause-lies c =
    let a = c.args in
    by-frame a.role _ _ c.is_swallowing-swallowing.result c.len_at-len.result c.step_of-step.result c.step_of-step.ensures a.i c.take_step.result c.take_step.ensures.lies
