use Rattle.codec.specs.Meanings.{meaning}
use Rattle.std.proofs.Common.{◌≡◌, ℕ, ◌+◌, ◌≤◌, ◌⊎◌, sym, subst, ⊎_elim}
use Rattle.writer.specs.declared.phase.Phase.{Phase}
use Rattle.writer.specs.declared.phase.Phase.TheVariants.{WaitsForKey, WaitsForValue}
use Rattle.writer.specs.States.{RoomIn, Room}
use Rattle.writer.proofs.ByEntries.{room_of}
use Rattle.writer.proofs.writer.Writer.room.Goals as goal

in_room : (p : Phase) (due n : ℕ) → (p ≡ WaitsForKey) ⊎ (p ≡ WaitsForValue) → due ≤ n → n ≤ due + 16 → RoomIn p due n
in_room p due n w l h =
    ⊎_elim (λ (e : p ≡ WaitsForKey). subst (λ (q : Phase). RoomIn q due n) (sym e) (l, h)) (λ (e : p ≡ WaitsForValue). subst (λ (q : Phase). RoomIn q due n) (sym e) (l, h)) w

pub returns-in-WaitsForKey : goal.returns-in-WaitsForKey
returns-in-WaitsForKey g c =
    let s = c.args.self.now in
    let state : Room g.C.Codec.bytes s c.room.result = rw (← c.self.view_is) (in_room c.self.inside.phase _ _ c.in-WaitsForKey.is c.room.ensures.low c.room.ensures.high) in
    record { state = state; entries = room_of (meaning g.C.Codec) s _ state; within = c.room.ensures.within }
