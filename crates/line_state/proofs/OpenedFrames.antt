-- The frames that brackets open, in a store.
use Rattle.std.proofs.Common.{◌≡◌, ℕ, Some, List, [], ◌∷◌, ◌++◌, ap, sym, ◌∙◌, Bool, true, if◌then◌else◌}
use Rattle.line_tokens.specs.declared.role.Role.{Role}
use Rattle.style_table.specs.declared.style.Style.{Style}
use Rattle.frame_store.specs.declared.frames.Frame.{Frame}
use Rattle.frame_store.specs.Frames.{topmost}
use Rattle.frame_store.specs.Store.{FrameList, list_at, extended}
use Rattle.line_state.specs.Brackets.{opens_frame}
use Rattle.line_state.specs.Layout.{new_frame, with_opened}

-- the list of a frame that a bracket opened
pub opened_on : (lists : List FrameList) (u : ℕ) (base top : Frame) (frames : List Frame) → list_at lists u ≡ record { base = base; frames = frames } → top ≡ topmost (list_at lists u).base (list_at lists u).frames → (style : Style) (role : Role) (frame : Frame) → frame ≡ new_frame style top role → opens_frame role ≡ true →
    extended lists frame (Some u) ≡ record { base = base; frames = with_opened style role base frames }
opened_on lists u base top frames at is_top style role frame is opens =
    let top_of : top ≡ topmost base frames = is_top ∙ ap (λ (l : FrameList). topmost l.base l.frames) at in
    ap (λ (l : FrameList). let e : FrameList = record { base = l.base; frames = l.frames ++ frame ∷ [] } in e) at
    ∙ ap (λ (f : Frame). let e : FrameList = record { base = base; frames = frames ++ f ∷ [] } in e) (is ∙ ap (λ (t : Frame). new_frame style t role) top_of)
    ∙ sym (ap (λ (b : Bool). let e : FrameList = record { base = base; frames = if b then frames ++ new_frame style (topmost base frames) role ∷ [] else frames } in e) opens)
