pub mod CutLaws
pub mod ChunkLaws
pub mod StepLaws
pub mod NewlineLaws
