pub mod Soundness
pub mod SoundnessCode
