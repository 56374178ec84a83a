use Rattle.guest_calls.proofs.stores.wasi_row.Goals as goal

pub returns-in-RandomGet : goal.returns-in-RandomGet
returns-in-RandomGet c = rw c.in-RandomGet.is c.wasi_random_get.ensures

pub returns-in-EnvironSizesGet : goal.returns-in-EnvironSizesGet
returns-in-EnvironSizesGet c = rw c.in-EnvironSizesGet.is c.wasi_environ_sizes_get.ensures

pub returns-in-ArgsSizesGet : goal.returns-in-ArgsSizesGet
returns-in-ArgsSizesGet c = rw c.in-ArgsSizesGet.is c.wasi_args_sizes_get.ensures

pub returns-in-EnvironGet : goal.returns-in-EnvironGet
returns-in-EnvironGet c = rw c.in-EnvironGet.is c.wasi_environ_get.ensures

pub returns-in-ArgsGet : goal.returns-in-ArgsGet
returns-in-ArgsGet c = rw c.in-ArgsGet.is c.wasi_args_get.ensures
