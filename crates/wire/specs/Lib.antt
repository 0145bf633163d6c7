pub mod Wire
