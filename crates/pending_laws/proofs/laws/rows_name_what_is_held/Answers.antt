use Rattle.pending_laws.proofs.RowsTame.{send_tame, send_async_tame, poll_tame, wait_tame, choose_tame, select_tame, ready_tame}
use Rattle.pending_laws.proofs.laws.rows_name_what_is_held.Goals as goal

pub returns-clause-send : goal.returns-clause-send
returns-clause-send c = send_tame

pub returns-clause-send_async : goal.returns-clause-send_async
returns-clause-send_async c = send_async_tame

pub returns-clause-poll : goal.returns-clause-poll
returns-clause-poll c = poll_tame

pub returns-clause-wait : goal.returns-clause-wait
returns-clause-wait c = wait_tame

pub returns-clause-choose : goal.returns-clause-choose
returns-clause-choose c = choose_tame

pub returns-clause-select : goal.returns-clause-select
returns-clause-select c = select_tame

pub returns-clause-is_ready : goal.returns-clause-is_ready
returns-clause-is_ready c = ready_tame
