use Rattle.fastly_toml.proofs.Forms.{backend_taken, backend_again}
use Rattle.fastly_toml.proofs.laws.a_url_tells_one_backend.Goals as goal

pub returns : goal.returns
returns c = λ url backend. (backend_taken url backend, backend_again url backend)
