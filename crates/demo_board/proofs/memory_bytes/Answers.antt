-- `memory_bytes` meets its contract.
-- Assumes nothing.
use Rattle.demo_board.proofs.Session.{paper_session}
use Rattle.demo_board.proofs.memory_bytes.Goals as goal

pub returns-clause-session : goal.returns-clause-session
returns-clause-session c = paper_session
