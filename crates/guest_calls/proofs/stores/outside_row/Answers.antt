use Rattle.guest_calls.proofs.stores.outside_row.Goals as goal

pub returns-in-LogWrite : goal.returns-in-LogWrite
returns-in-LogWrite c = rw c.in-LogWrite.is c.log_write.ensures.row

pub returns-in-FdWrite : goal.returns-in-FdWrite
returns-in-FdWrite c = rw c.in-FdWrite.is c.wasi_fd_write.ensures

pub returns-in-ClockTimeGet : goal.returns-in-ClockTimeGet
returns-in-ClockTimeGet c = rw c.in-ClockTimeGet.is c.wasi_clock_time_get.ensures
