pub mod CircleBundle
