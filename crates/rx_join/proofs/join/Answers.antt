-- `rx_join::join` meets its contract.
-- Assumes nothing.
use mathlib.Core.Path.{sym, ◌∙◌}
use Rattle.std.proofs.lemmas.Result.{err_from_is_err_and}
use Rattle.rx_source_spec.proofs.FreePlaces.{join-aging}
use Rattle.rx_source_spec.proofs.OneSource.{join-one-source}
use Rattle.rx_join_spec.proofs.CheckLaws.{refused_ends, joined-ends}
use Rattle.rx_join_spec.proofs.JoinLaws.{mid_sound, mid_place, long_joins, sound-joins}
use Rattle.rx_join.proofs.ArriveLaws.{b7_refuses, lets-pass, later-is, arrived}
use borrow.Author.Rules.{rules}
use Rattle.rx_join.proofs.join.Goals as goal

pub returns-in_default-clause-ends : goal.returns-in_default-clause-ends
returns-in_default-clause-ends c =
    let a = c.args in
    let s = c.source_of-source in
    refused_ends (b7_refuses s.result a.tick a.places.now a.pool.now a.later (sym c.in_default.is ∙ c.look_up.ensures))

pub returns-in_default-clause-aging : goal.returns-in_default-clause-aging
returns-in_default-clause-aging c = join-aging

pub returns-in_default-clause-source : goal.returns-in_default-clause-source
returns-in_default-clause-source c = join-one-source

pub returns-in_err-later-clause-ends : goal.returns-in_err-later-clause-ends
returns-in_err-later-clause-ends c =
    let a = c.args in
    let s = c.source_of-source in
    let p = err_from_is_err_and c.from_residual.result c.from_residual.ensures.1 in
    rw (p.1, p.2) (refused_ends (later-is s.result a.tick a.places.now a.pool.now (sym c.in-Ok.is ∙ c.look_up.ensures) a.later ∙ c.in_err-later.was))

pub returns-in_err-later-clause-aging : goal.returns-in_err-later-clause-aging
returns-in_err-later-clause-aging c = join-aging

pub returns-in_err-later-clause-source : goal.returns-in_err-later-clause-source
returns-in_err-later-clause-source c = join-one-source

-- what the search found and the drop left, where no error applies
pub returns-then-payload-gt8-clause-ends : goal.returns-then-payload-gt8-clause-ends
returns-then-payload-gt8-clause-ends c =
    let a = c.args in
    let s = c.source_of-source in
    let v = c.arrive-i.ensures in
    let e = sym c.in-Ok.is ∙ c.look_up.ensures in
    let w = arrived s.result a.tick a.places.now a.pool.now e v.found v.places v.renewal in
    joined-ends (later-is s.result a.tick a.places.now a.pool.now e a.later ∙ c.in_ok-later.was)
    (long_joins a.alias a.tick a.header a.payload.now a.pool.now a.places.now _ (lets-pass s.result a.tick a.places.now a.pool.now e) w.places w.renewal c.if-payload-gt8.true)

pub returns-then-payload-gt8-clause-aging : goal.returns-then-payload-gt8-clause-aging
returns-then-payload-gt8-clause-aging c = join-aging

pub returns-then-payload-gt8-clause-source : goal.returns-then-payload-gt8-clause-source
returns-then-payload-gt8-clause-source c = join-one-source

pub join_sound-requires : goal.join_sound-requires
join_sound-requires c =
    let a = c.args in
    let s = c.source_of-source in
    let v = c.arrive-i.ensures in
    let e = sym c.in-Ok.is ∙ c.look_up.ensures in
    let w = arrived s.result a.tick a.places.now a.pool.now e v.found v.places v.renewal in
    let ok = lets-pass s.result a.tick a.places.now a.pool.now e in (
      record { pool = search rules; payload = search rules },
      mid_sound a.alias a.tick a.header a.payload.now a.pool.now a.places.now _ ok w.places w.renewal,
      mid_place a.alias a.tick a.header a.payload.now a.pool.now a.places.now _ ok w.places w.renewal s.result c.arrive-i.result w.found,
    )

pub returns-clause-ends : goal.returns-clause-ends
returns-clause-ends c =
    let a = c.args in
    let s = c.source_of-source in
    let v = c.arrive-i.ensures in
    let e = sym c.in-Ok.is ∙ c.look_up.ensures in
    let w = arrived s.result a.tick a.places.now a.pool.now e v.found v.places v.renewal in
    let role = c.role_of-role in
    joined-ends (later-is s.result a.tick a.places.now a.pool.now e a.later ∙ c.in_ok-later.was)
    (sound-joins a.alias a.tick a.header a.payload.now a.pool.now a.places.now _ (lets-pass s.result a.tick a.places.now a.pool.now e) w.places w.renewal role.result s.result
    c.join_sound.result _ _ (search rules) role.ensures s.ensures.0 c.join_sound.ensures.joins)

pub returns-clause-lies : goal.returns-clause-lies
returns-clause-lies c =
    let a = c.args in
    let s = c.source_of-source in
    let v = c.arrive-i.ensures in
    let e = sym c.in-Ok.is ∙ c.look_up.ensures in
    let w = arrived s.result a.tick a.places.now a.pool.now e v.found v.places v.renewal in
    rw (← c.role_of-role.ensures, ← s.ensures.0, ← w.found) c.join_sound.ensures.lies

pub returns-clause-aging : goal.returns-clause-aging
returns-clause-aging c = join-aging

pub returns-clause-source : goal.returns-clause-source
returns-clause-source c = join-one-source
