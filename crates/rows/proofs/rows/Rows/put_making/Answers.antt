use Rattle.std.proofs.Common.{◌≡◌, sym, ◌∙◌, subst}
use Rattle.rows.specs.Rows.{written}
use Rattle.rows.specs.Loading.{Put}
use Rattle.rows.proofs.Loadings.{put_made}
use Rattle.rows.proofs.Rooms.{room_of, written_next}
use Rattle.rows.proofs.rows.Rows.put_making.Goals as goal

pub returns-clause-put : goal.returns-clause-put
returns-clause-put c =
    let m = c.args.self.now.memory.now in
    let n = c.args.self.now.wires in
    let w = c.args.wire in
    let r = c.encoded-kind.result in
    let m₁ = written m n 0 w r.0 in
    let m₂ = written m₁ n 1 w r.1 in
    let m₃ = written m₂ n 2 w r.2 in
    let second : c.put-2.new.self.memory.now ≡ m₂ = written_next n c.put.new.self c.put-2.new.self.memory.now m₁ 1 w r.1 c.put.ensures.same.wires c.put.ensures.memory c.put-2.ensures.memory in
    let third : c.put-3.new.self.memory.now ≡ m₃ = written_next n c.put-2.new.self c.put-3.new.self.memory.now m₂ 2 w r.2 (c.put-2.ensures.same.wires ∙ c.put.ensures.same.wires) second c.put-3.ensures.memory in
    subst (λ x. Put n m x w c.args.how) (sym third) (put_made n m (room_of c.args.self.now) w r.0 r.1 r.2 c.requires c.args.how c.encoded-kind.ensures)
